-- What tokens come to on a sheet.
use Rattle.std.proofs.Common.{◌≡◌, List, [], ◌∷◌, ◌++◌, sym, ◌∙◌, append_assoc}
use Rattle.std.proofs.lemmas.List.{append-nil}
use Rattle.contract_grammar.specs.declared.token.Token.{Token}
use Rattle.contract_printer.specs.declared.spaced_text.SpacedText.{SpacedText}
use Rattle.contract_printer.specs.Canonical.{text_behind, text_of}
use Rattle.contract_printer.specs.SpacedTexts.{put, put_all, blank}

behind : (s : SpacedText) (ts : List Token) → (put_all s ts).text ≡ s.text ++ text_behind s.word ts
unfolding put
behind s [] = sym (append-nil _)
behind s (t ∷ ts) = behind (put s t) ts ∙ simp append_assoc

pub written : (ts : List Token) → (put_all blank ts).text ≡ text_of ts
written ts = behind blank ts
