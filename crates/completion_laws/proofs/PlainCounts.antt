-- Without configurations, tame and well staffed are what counting by the table says, and inputs in which few enough nodes are named faulty are tame.
use Rattle.std.specs.Prelude.{ℕ, ◌≡◌, List, [], ◌∷◌, ◌++◌, map, Option, Some, None, Result, Ok, Err, IfSome, refl}
use Rattle.std.specs.List.{AllByRecursion, flat_map}
use Rattle.std.proofs.Common.{sym, subst}
use Rattle.std.proofs.lemmas.List.Elements.{recursion_from_All}
use Rattle.txn_types.specs.declared.block.Body.{Body}
use Rattle.txn_types.specs.declared.block.Config.{Config}
use Rattle.txn_types.specs.declared.stream.CutLimits.{CutLimits}
use Rattle.txn_types.specs.declared.stream.Item.{Item}
use Rattle.txn_types.specs.declared.stream.Item.TheVariants as item
use Rattle.txn_types.specs.declared.stream.Piece.{Piece}
use Rattle.txn_types.specs.declared.stream.Piece.TheVariants as piece
use Rattle.txn_types.specs.declared.stream.Reject.{Reject}
use Rattle.txn_types.specs.declared.txn.Txn.{Txn}
use Rattle.oxii_defs.specs.Lawful.{IsLawfulTable}
use Rattle.oxii_defs.specs.Table.{Table}
use Rattle.node_defs.specs.Admission.{admit, piece_of, piece_of_answer, pieces_of}
use Rattle.node_defs.specs.Cutting.{AdmittedItem, AreAgreed, admitted, admitted_with, carried_body, config_in, mark_comes, txns_in, txns_in_piece}
use Rattle.node_defs.specs.LawfulItems.{AreLawfulLimits, IsLawfulPiece}
use Rattle.node_defs.specs.Rules.{agents_in, changed, tau_in}
use Rattle.node_defs.specs.Sayings.{config_of_piece, txns_of_piece}
use Rattle.node_defs.specs.Tame.{IsTame}
use Rattle.node_defs.proofs.Settings.{agreed_setting_is}
use Rattle.node_laws.proofs.AgreeSent.{all_append, all_more}
use Rattle.node_laws.proofs.Bodies.{lawful_bodies, lawful_pieces}
use Rattle.node_laws.proofs.ExactlyOne.{exactly_one_cutting}
use Rattle.completion_laws.specs.Counted.{AreEnoughUnnamed, AreFewNamed, HasNoConfig, PassInForce, PassInTable}
use Rattle.completion_laws.specs.Staffed.{IsWellStaffed}
use Rattle.completion_laws.specs.WitnessLaws.{FewFaultyIsTame, NobodyFaultyIsStaffed, NobodyFaultyIsTame, StaffedIsPlain, TameIsPlain}
use Rattle.completion_laws.proofs.Counted.{staffed_is_counted, tame_is_counted}
use Rattle.completion_laws.proofs.Exact.{nobody_faulty}
use Rattle.completion_laws.proofs.InForce.{app_within}

-- LISTS OF A CUTTING

split : {A : Type 0} (P : A → Type 0) (xs ys : List A) → AllByRecursion P (xs ++ ys) → AllByRecursion P xs × AllByRecursion P ys
split P [] ys a = (tt, a)
split P (x ∷ xs) ys a = let h = split P xs ys a.1 in ((a.0, h.0), h.1)

-- WITHOUT CONFIGURATIONS

abbrev IsNoConfig : AdmittedItem → Type 0
IsNoConfig x = config_of_piece (Some x.piece) ≡ None

none_admitted : (table : Table) (items : List Item) → HasNoConfig items → AllByRecursion IsNoConfig (admitted table items)
none_admitted table [] h = tt
none_admitted table (item.Ask q ∷ rest) h = one (admit table q) (none_admitted table rest h)
  where
    one : (r : Result Txn Reject) → AllByRecursion IsNoConfig (admitted table rest) → AllByRecursion IsNoConfig (admitted_with (piece_of_answer r) (mark_comes table rest) (admitted table rest))
    one (Ok t) more = (refl, more)
    one (Err why) more = more
none_admitted table (item.Mark ∷ rest) h = none_admitted table rest h
none_admitted table (item.Config c ∷ rest) h = absurd h

none_in : (xs : List AdmittedItem) → AllByRecursion IsNoConfig xs → config_in xs ≡ None
none_in [] a = refl
none_in (x ∷ rest) a = one x.piece a.0
  where
    one : (p : Piece) → config_of_piece (Some p) ≡ None → config_in (record { piece = p; marked = x.marked } ∷ rest) ≡ None
    one (piece.Call t) e = refl
    one (piece.Config c) e = e

none_in_bodies : (lists : List (List AdmittedItem)) → AllByRecursion IsNoConfig (flat_map (λ l. l) lists) → AllByRecursion (λ (b : Body). b.config ≡ None) (map carried_body lists)
none_in_bodies [] a = tt
none_in_bodies (xs ∷ rest) a = let h = split IsNoConfig xs (flat_map (λ l. l) rest) a in (none_in xs h.0, none_in_bodies rest h.1)

-- so the same is in force throughout
module _ (test : List ℕ → ℕ → Type 0) (agents : ℕ → List ℕ) (tau : ℕ → ℕ) where
  abbrev Passes : Txn → Type 0
  Passes t = test (agents t.app) (tau t.app)

  abbrev RestPass : List Body → Option Config → Type 0
  RestPass rest c = PassInForce test (λ app. changed c (λ (x : Config). x.agents) app (agents app)) (λ app. changed c (λ (x : Config). x.tau) app (tau app)) rest

  same_from : (bodies : List Body) → AllByRecursion (λ (b : Body). b.config ≡ None) bodies → AllByRecursion (λ (b : Body). AllByRecursion Passes b.txns) bodies → PassInForce test agents tau bodies
  same_from [] none h = tt
  same_from (b ∷ rest) none h = (h.0, subst (RestPass rest) (sym none.0) (same_from rest none.1 h.1))

  same_to : (bodies : List Body) → AllByRecursion (λ (b : Body). b.config ≡ None) bodies → PassInForce test agents tau bodies → AllByRecursion (λ (b : Body). AllByRecursion Passes b.txns) bodies
  same_to [] none h = tt
  same_to (b ∷ rest) none h = (h.0, same_to rest none.1 (subst (RestPass rest) none.0 h.1))

-- WHAT HOLDS OF EACH TRANSACTION

module _ (P : Txn → Type 0) where
  abbrev OfItem : AdmittedItem → Type 0
  OfItem x = AllByRecursion P (txns_in_piece x.piece)

  abbrev OfPiece : Option Piece → Type 0
  OfPiece p = AllByRecursion P (txns_of_piece p)

  items_from : (table : Table) (items : List Item) → AllByRecursion OfPiece (pieces_of table items) → AllByRecursion OfItem (admitted table items)
  items_from table [] a = tt
  items_from table (x ∷ rest) a = one (piece_of table x) a.0 (items_from table rest a.1)
    where
      one : (p : Option Piece) → OfPiece p → AllByRecursion OfItem (admitted table rest) → AllByRecursion OfItem (admitted_with p (mark_comes table rest) (admitted table rest))
      one None h more = more
      one (Some (piece.Call t)) h more = (h, more)
      one (Some (piece.Config c)) h more = (h, more)

  items_to : (table : Table) (items : List Item) → AllByRecursion OfItem (admitted table items) → AllByRecursion OfPiece (pieces_of table items)
  items_to table [] a = tt
  items_to table (x ∷ rest) a = one (piece_of table x) a (items_to table rest)
    where
      one : (p : Option Piece) → AllByRecursion OfItem (admitted_with p (mark_comes table rest) (admitted table rest)) → (AllByRecursion OfItem (admitted table rest) → AllByRecursion OfPiece (pieces_of table rest)) → OfPiece p × AllByRecursion OfPiece (pieces_of table rest)
      one None h more = (tt, more h)
      one (Some (piece.Call t)) h more = (h.0, more h.1)
      one (Some (piece.Config c)) h more = (h.0, more h.1)

  list_from : (xs : List AdmittedItem) → AllByRecursion OfItem xs → AllByRecursion P (txns_in xs)
  list_from [] a = tt
  list_from (x ∷ rest) a = all_append P (txns_in_piece x.piece) (txns_in rest) a.0 (list_from rest a.1)

  list_to : (xs : List AdmittedItem) → AllByRecursion P (txns_in xs) → AllByRecursion OfItem xs
  list_to [] a = tt
  list_to (x ∷ rest) a = let h = split P (txns_in_piece x.piece) (txns_in rest) a in (h.0, list_to rest h.1)

  bodies_from : (lists : List (List AdmittedItem)) → AllByRecursion OfItem (flat_map (λ l. l) lists) → AllByRecursion (λ (b : Body). AllByRecursion P b.txns) (map carried_body lists)
  bodies_from [] a = tt
  bodies_from (xs ∷ rest) a = let h = split OfItem xs (flat_map (λ l. l) rest) a in (list_from xs h.0, bodies_from rest h.1)

  bodies_to : (lists : List (List AdmittedItem)) → AllByRecursion (λ (b : Body). AllByRecursion P b.txns) (map carried_body lists) → AllByRecursion OfItem (flat_map (λ l. l) lists)
  bodies_to [] a = tt
  bodies_to (xs ∷ rest) a = all_append OfItem xs (flat_map (λ l. l) rest) (list_to xs a.0) (bodies_to rest a.1)

-- BY THE TABLE

module _ (table : Table) (items : List Item) (limits : CutLimits) (lawful : IsLawfulTable table) (fair : AreLawfulLimits limits) where
  abbrev cut_lists : List (List AdmittedItem)
  cut_lists = (exactly_one_cutting table limits items lawful fair).lists

  cut_whole : flat_map (λ l. l) cut_lists ≡ admitted table items
  cut_whole = (exactly_one_cutting table limits items lawful fair).is.whole

  abbrev cut_bodies : List Body
  cut_bodies = map carried_body cut_lists

  cut_agreed : AreAgreed table limits items cut_bodies
  cut_agreed = (cut_lists, (exactly_one_cutting table limits items lawful fair).is, refl)

  module _ (still : HasNoConfig items) (test : List ℕ → ℕ → Type 0) where
    none_cut : AllByRecursion (λ (b : Body). b.config ≡ None) cut_bodies
    none_cut = none_in_bodies cut_lists (subst (AllByRecursion IsNoConfig) (sym cut_whole) (none_admitted table items still))

    abbrev Pass : Txn → Type 0
    Pass t = test (agents_in table t.app) (tau_in table t.app)

    in_force_from : PassInTable test table items → PassInForce test (agents_in table) (tau_in table) cut_bodies
    in_force_from h =
        same_from test (agents_in table) (tau_in table) cut_bodies none_cut
        (bodies_from Pass cut_lists (subst (AllByRecursion (OfItem Pass)) (sym cut_whole) (items_from Pass table items h)))

    in_force_to : PassInForce test (agents_in table) (tau_in table) cut_bodies → PassInTable test table items
    in_force_to h =
        items_to Pass table items
        (subst (AllByRecursion (OfItem Pass)) cut_whole (bodies_to Pass cut_lists (same_to test (agents_in table) (tau_in table) cut_bodies none_cut h)))

pub tame_is_plain : TameIsPlain
tame_is_plain table genesis items limits faulty lawful fair still =
    let counted = tame_is_counted table genesis items limits faulty (cut_bodies table items limits lawful fair) (cut_agreed table items limits lawful fair) in (
      λ h. let c = counted.0 h in record { orderers = c.orderers; agents = in_force_to table items limits lawful fair still (AreFewNamed faulty) c.agents },
      λ h. counted.1 (record { orderers = h.orderers; agents = in_force_from table items limits lawful fair still (AreFewNamed faulty) h.agents }),
    )

pub staffed_is_plain : StaffedIsPlain
staffed_is_plain table genesis items limits faulty lawful fair fine still =
    let counted = staffed_is_counted table genesis items limits faulty (cut_bodies table items limits lawful fair) lawful fair fine (cut_agreed table items limits lawful fair) in (
      λ h. let c = counted.0 h in record { orderers = c.orderers; agents = in_force_to table items limits lawful fair still (AreEnoughUnnamed faulty) c.agents },
      λ h. counted.1 (record { orderers = h.orderers; agents = in_force_from table items limits lawful fair still (AreEnoughUnnamed faulty) h.agents }),
    )

-- FEW AND NOBODY

pub few_faulty_is_tame : FewFaultyIsTame
few_faulty_is_tame table genesis items limits faulty lawful fair fine still few =
    (tame_is_plain table genesis items limits faulty lawful fair still).1 (record {
      orderers = few.orderers;
      agents = all_more (λ p. IfSome p (IsLawfulPiece table)) (OfPiece few_at) one (pieces_of table items) (recursion_from_All (λ p. IfSome p (IsLawfulPiece table)) (pieces_of table items) (lawful_pieces table items fine));
    })
  where
    few_at : Txn → Type 0
    few_at t = AreFewNamed faulty (agents_in table t.app) (tau_in table t.app)

    one : (p : Option Piece) → IfSome p (IsLawfulPiece table) → OfPiece few_at p
    one None h = tt
    one (Some (piece.Call t)) h = (few.agents t.app (app_within table t h), tt)
    one (Some (piece.Config c)) h = tt

pub nobody_faulty_is_tame : NobodyFaultyIsTame
nobody_faulty_is_tame table genesis items limits lawful fair fine s set =
    subst IsTame (sym (agreed_setting_is table genesis items limits [] s set)) (nobody_faulty table genesis items set.bodies lawful (lawful_bodies table limits items set.bodies fair fine set.agreed)).0

pub nobody_faulty_is_staffed : NobodyFaultyIsStaffed
nobody_faulty_is_staffed table genesis items limits lawful fair fine s set =
    subst IsWellStaffed (sym (agreed_setting_is table genesis items limits [] s set)) (nobody_faulty table genesis items set.bodies lawful (lawful_bodies table limits items set.bodies fair fine set.agreed)).1
