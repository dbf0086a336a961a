-- What has been written: the text, and whether it ends with a word.
use Rattle.std.specs.Prelude.{◌&&◌, false, List, [], ◌++◌, fold}
use Rattle.contract_grammar.specs.declared.token.Token.{Token}
use Rattle.contract_printer.specs.declared.spaced_text.SpacedText.{SpacedText}
use Rattle.contract_printer.specs.Canonical.{is_word, space, token_text}

-- one token more
unfoldable pub put : SpacedText → Token → SpacedText
put s t = record { text = s.text ++ (space (s.word && is_word t) ++ token_text t); word = is_word t }

-- tokens, one after another
abbrev pub put_all : SpacedText → List Token → SpacedText
put_all s ts = fold put s ts

-- nothing yet
abbrev pub blank : SpacedText
blank = record { text = []; word = false }
