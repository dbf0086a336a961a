-- Words are one command, whose numbers are in their ranges.
use Rattle.std.proofs.Common.{◌≡◌, ◌∙◌, ℕ, Bool, refl, sym, ap, subst, List, [], ◌∷◌, codes}
use Rattle.par_words.specs.declared.command.Command.{Command}
use Rattle.par_words.specs.declared.command.Command.TheVariants.{Run, Graph, Soak}
use Rattle.par_words.specs.Words.{IsNumberOfWorkers, IsInRange, Says, SayRun, SaySoak}
use Rattle.par_words.specs.OptionUses.{Text}
use Rattle.par_words.proofs.RunWords.{run_range, same_run}
use Rattle.par_words.proofs.SoakWords.{soak_range, same_soak}

pub in_range : (words : List Text) (c : Command) → Says words c → IsInRange c
in_range words (Run n traced evident) said = subst IsNumberOfWorkers (sym said.number) (run_range said.rest said.given traced evident said.options)
in_range words Graph said = tt
in_range words (Soak seed txns workers) said = soak_range words seed txns workers said

run_or_graph : (words : List Text) (n : ℕ) (traced evident : Bool) → SayRun words n traced evident → words ≡ codes "graph" ∷ [] → ⊥
run_or_graph words n traced evident s is =
    let both : codes "run" ∷ s.rest ≡ codes "graph" ∷ [] = sym s.first ∙ is in cc

soak_or_graph : (words : List Text) (seed txns workers : ℕ) → SaySoak words seed txns workers → words ≡ codes "graph" ∷ [] → ⊥
soak_or_graph words seed txns workers s is =
    let both : codes "soak" ∷ s.rest ≡ codes "graph" ∷ [] = sym s.first ∙ is in cc

run_or_soak : (words : List Text) (n : ℕ) (traced evident : Bool) (seed txns workers : ℕ) → SayRun words n traced evident → SaySoak words seed txns workers → ⊥
run_or_soak words n traced evident seed txns workers s r =
    let both : codes "run" ∷ s.rest ≡ codes "soak" ∷ r.rest = sym s.first ∙ r.first in cc

pub one_command : (words : List Text) (c d : Command) → Says words c → Says words d → c ≡ d
one_command words (Run n traced evident) (Run m asked shown) is other =
    let same = same_run words n m traced asked evident shown is other in
    ap (λ (k : ℕ). Run k traced evident) same.workers ∙ ap (λ (b : Bool). Run m b evident) same.trace ∙ ap (λ (b : Bool). Run m asked b) same.evidence
one_command words (Run n traced evident) Graph is other = absurd (run_or_graph words n traced evident is other)
one_command words (Run n traced evident) (Soak seed txns workers) is other = absurd (run_or_soak words n traced evident seed txns workers is other)
one_command words Graph (Run n traced evident) is other = absurd (run_or_graph words n traced evident other is)
one_command words Graph Graph is other = refl
one_command words Graph (Soak seed txns workers) is other = absurd (soak_or_graph words seed txns workers other is)
one_command words (Soak seed txns workers) (Run n traced evident) is other = absurd (run_or_soak words n traced evident seed txns workers other is)
one_command words (Soak seed txns workers) Graph is other = absurd (soak_or_graph words seed txns workers is other)
one_command words (Soak a b c) (Soak a' b' c') is other =
    let same = same_soak words a a' b b' c c' is other in
    ap (λ (k : ℕ). Soak k b c) same.0 ∙ ap (λ (k : ℕ). Soak a' k c) same.1 ∙ ap (λ (k : ℕ). Soak a' b' k) same.2
