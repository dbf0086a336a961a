-- The source and the sink over memory, as contracts see them, and what one call does.
use Rattle.std.specs.Prelude.{◌≡◌, ◌⊎◌, ◌<◌, ◌↔◌, ℕ, List, [], ◌+◌, min, length, Contains, IsErr, IfOk}
use Rattle.std.specs.declared.result.Result.{Result}
use Rattle.par_io.specs.declared.Failed.{Failed}
use Rattle.par_io.specs.Causes.{one_more, CountsFaults}

-- the bytes left, the most that a call gives, the numbers of the calls that fail, and the calls and faults so far
pub record MemoryFrom : Type 0 where
  pub rest : List ℕ
  pub piece : ℕ
  pub failing : List ℕ
  pub calls : ℕ
  pub faults : ℕ

-- a source with all these bytes left, before its first call
abbrev pub new_source : List ℕ → ℕ → List ℕ → MemoryFrom
new_source bytes most listed = record { rest = bytes; piece = most; failing = listed; calls = 0; faults = 0 }

-- one more call: it fails exactly where its number is listed, and else gives all that the piece and the buffer allow
pub record TakesRead (old new : MemoryFrom) (size : ℕ) (result : Result ℕ Failed) : Type 0 where
  pub calls : new.calls ≡ one_more old.calls
  pub fails : IsErr result ↔ Contains old.failing new.calls
  pub count : IfOk result (λ n. n ≡ min (min (length old.rest) old.piece) size)
  pub faults : CountsFaults old.faults new.faults result
  pub piece : new.piece ≡ old.piece
  pub failing : new.failing ≡ old.failing

-- the bytes written, the most that a call takes, the most in all, the numbers of the calls that fail, and the calls and faults so far
pub record MemoryTo : Type 0 where
  pub written : List ℕ
  pub piece : ℕ
  pub room : ℕ
  pub failing : List ℕ
  pub calls : ℕ
  pub faults : ℕ

-- a sink with nothing written, before its first call
abbrev pub new_sink : ℕ → ℕ → List ℕ → MemoryTo
new_sink most all listed = record { written = []; piece = most; room = all; failing = listed; calls = 0; faults = 0 }

-- why the call of this number fails for so many bytes: it is listed, the bytes to take pass the room, or it may take none of a byte
abbrev pub MayNotWrite : MemoryTo → ℕ → ℕ → Type 0
MayNotWrite sink call size =
    Contains sink.failing call
    ⊎ ((sink.room < length sink.written + min size sink.piece)
    ⊎ ((sink.piece ≡ 0) × (0 < size)))

-- one more call: it fails exactly for one of the three reasons, and else takes all that the piece allows
pub record TakesWrite (old new : MemoryTo) (size : ℕ) (result : Result ℕ Failed) : Type 0 where
  pub calls : new.calls ≡ one_more old.calls
  pub fails : IsErr result ↔ MayNotWrite old new.calls size
  pub count : IfOk result (λ n. n ≡ min size old.piece)
  pub faults : CountsFaults old.faults new.faults result
  pub piece : new.piece ≡ old.piece
  pub room : new.room ≡ old.room
  pub failing : new.failing ≡ old.failing
