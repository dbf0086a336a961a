-- What a hash that is being made has taken.
use Rattle.std.specs.Prelude.{ℕ, List}
use Rattle.sha2.specs.Hashers.{Holds256}
use Rattle.hash_ledger.specs.declared.feed.Hashing.{Hashing}

-- these bytes were hashed so far
abbrev pub HasHashed : Hashing → List ℕ → Type 0
HasHashed h m = Holds256 h.hasher m
