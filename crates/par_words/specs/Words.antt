-- What command words say.
use Rattle.std.specs.Prelude.{ℕ, ◌≡◌, ◌≤◌, ◌++◌, ◌⊎◌, Bool, true, false, List, [], ◌∷◌, Option, Some, None, codes, decimal, unwrap_or}
use Rattle.par_words.specs.declared.command.Command.{Command}
use Rattle.par_words.specs.declared.command.Command.TheVariants.{Run, Graph, Soak}

-- a number of workers is one from 1 to 16
abbrev pub IsNumberOfWorkers : ℕ → Type 0
IsNumberOfWorkers n = (1 ≤ n) × (n ≤ 16)

-- a seed is one from 0 to 65535
abbrev pub IsSeed : ℕ → Type 0
IsSeed n = (0 ≤ n) × (n ≤ 65535)

-- a number of transactions is one from 1 to 4096
abbrev pub IsNumberOfTxns : ℕ → Type 0
IsNumberOfTxns n = (1 ≤ n) × (n ≤ 4096)

-- words that begin with an option and its number: the number is a word of its own after the option, or is in one word with it, after `=`
abbrev pub BeginWith : List ℕ → ℕ → List (List ℕ) → List (List ℕ) → Type 0
BeginWith option n rest words = (words ≡ option ∷ decimal n ∷ rest) ⊎ (words ≡ (option ++ (codes "=" ++ decimal n)) ∷ rest)

-- the options of `run`, in any order and each at most once: the number of workers where it is given, whether a trace is asked for, and whether evidence is
pub data AreRunOptions : List (List ℕ) → Option ℕ → Bool → Bool → Type 0 where
  run_nothing : AreRunOptions [] None false false
  run_trace : (rest : List (List ℕ)) (workers : Option ℕ) (evident : Bool) → AreRunOptions rest workers false evident → AreRunOptions (codes "--trace" ∷ rest) workers true evident
  run_evidence : (rest : List (List ℕ)) (workers : Option ℕ) (traced : Bool) → AreRunOptions rest workers traced false → AreRunOptions (codes "--evidence" ∷ rest) workers traced true
  run_workers : (n : ℕ) (rest words : List (List ℕ)) (traced evident : Bool) → BeginWith (codes "--workers") n rest words → IsNumberOfWorkers n → AreRunOptions rest None traced evident → AreRunOptions words (Some n) traced evident

-- `run` and its options give a run, with 4 workers where no number is given
pub record SayRun (words : List (List ℕ)) (workers : ℕ) (traced evident : Bool) : Type 0 where
  pub rest : List (List ℕ)
  pub first : words ≡ codes "run" ∷ rest
  pub given : Option ℕ
  pub options : AreRunOptions rest given traced evident
  pub number : workers ≡ unwrap_or given 4

-- the options of `soak`, in any order and each at most once: the seed, the number of transactions and the number of workers, each where it is given
pub data AreSoakOptions : List (List ℕ) → Option ℕ → Option ℕ → Option ℕ → Type 0 where
  soak_nothing : AreSoakOptions [] None None None
  soak_seed : (n : ℕ) (rest words : List (List ℕ)) (txns workers : Option ℕ) → BeginWith (codes "--seed") n rest words → IsSeed n → AreSoakOptions rest None txns workers → AreSoakOptions words (Some n) txns workers
  soak_txns : (n : ℕ) (rest words : List (List ℕ)) (seed workers : Option ℕ) → BeginWith (codes "--txns") n rest words → IsNumberOfTxns n → AreSoakOptions rest seed None workers → AreSoakOptions words seed (Some n) workers
  soak_workers : (n : ℕ) (rest words : List (List ℕ)) (seed txns : Option ℕ) → BeginWith (codes "--workers") n rest words → IsNumberOfWorkers n → AreSoakOptions rest seed txns None → AreSoakOptions words seed txns (Some n)

-- `soak` with a seed and a number of transactions gives a soak, with 4 workers where no number is given
pub record SaySoak (words : List (List ℕ)) (seed txns workers : ℕ) : Type 0 where
  pub rest : List (List ℕ)
  pub first : words ≡ codes "soak" ∷ rest
  pub given : Option ℕ
  pub options : AreSoakOptions rest (Some seed) (Some txns) given
  pub number : workers ≡ unwrap_or given 4

-- the words are this command: `run` or `soak` with its options, or the one word `graph`
abbrev pub Says : List (List ℕ) → Command → Type 0
Says words (Run workers traced evident) = SayRun words workers traced evident
Says words Graph = words ≡ codes "graph" ∷ []
Says words (Soak seed txns workers) = SaySoak words seed txns workers

-- the words are a command
abbrev pub IsCommand : List (List ℕ) → Type 0
IsCommand words = (command : Command) × Says words command

-- the numbers of a command are in their ranges
abbrev pub IsInRange : Command → Type 0
IsInRange (Run workers traced evident) = IsNumberOfWorkers workers
IsInRange Graph = Unit {0}
IsInRange (Soak seed txns workers) = IsSeed seed × IsNumberOfTxns txns × IsNumberOfWorkers workers

-- words are at most one command
abbrev pub SayOneCommand : Type 0
SayOneCommand = (words : List (List ℕ)) (one other : Command) → Says words one → Says words other → one ≡ other
