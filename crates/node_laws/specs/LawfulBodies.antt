-- What a lawful stream carries is lawful: the bodies of its agreed blocks, and what a false block may name.
use Rattle.std.specs.Prelude.{ℕ, List}
use Rattle.std.specs.List.{All}
use Rattle.txn_types.specs.declared.block.Body.{Body}
use Rattle.txn_types.specs.declared.stream.CutLimits.{CutLimits}
use Rattle.txn_types.specs.declared.stream.Item.{Item}
use Rattle.oxii_defs.specs.Table.{Table}
use Rattle.oxii_defs.specs.Lawful.{IsLawfulBody}
use Rattle.node_defs.specs.Admission.{pieces_of}
use Rattle.node_defs.specs.LawfulItems.{AreLawfulPieces, IsLawfulItem, AreLawfulLimits}
use Rattle.node_defs.specs.Cutting.{AreAgreed}
use Rattle.node_defs.specs.World.{Setting}
use Rattle.node_defs.specs.Sayings.{config_named, txns_named}
use Rattle.node_defs.specs.LawfulEvents.{AreNamed}

-- where the limits and the items of the stream are lawful
abbrev pub LawfulBodies : Type 0
LawfulBodies = (table : Table) (limits : CutLimits) (items : List Item) (bodies : List Body) →
    AreLawfulLimits limits → All (IsLawfulItem table) items → AreAgreed table limits items bodies →
    All (λ body. IsLawfulBody table body.txns body.config) bodies

-- an admitted request is a lawful transaction
abbrev pub LawfulPieces : Type 0
LawfulPieces = (table : Table) (items : List Item) → All (IsLawfulItem table) items → AreLawfulPieces table (pieces_of table items)

-- the items that a false block may name are what a lawful block carries
abbrev pub NamedItemsMakeLawfulBodies : Type 0
NamedItemsMakeLawfulBodies = (table : Table) (s : Setting) (items : List ℕ) →
    AreLawfulPieces table s.pieces → AreNamed s items → IsLawfulBody table (txns_named s.pieces items) (config_named s.pieces items)
