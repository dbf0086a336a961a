-- What stood before an item stands behind it.
use Rattle.std.proofs.Common.{◌≡◌, ℕ, ◌+◌, ◌<◌, ◌≤◌, Bool, true, false, List, [], ◌∷◌, ◌++◌, length, map, Some, refl, sym, ap, ◌∙◌, subst, arith, inl, inr}
use Rattle.std.specs.List.{All, flat_map}
use Rattle.std.proofs.lemmas.List.{append-nil, append_assoc, length-append, map-append}
use Rattle.std.proofs.lemmas.List.Concat.{flat_map-append}
use Rattle.std.proofs.lemmas.List.Elements.{All-nil, All-cons, All-append, All-push}
use Rattle.txn_types.specs.declared.txn.Txn.{Txn}
use Rattle.txn_types.specs.declared.block.Body.{Body}
use Rattle.txn_types.specs.declared.block.Config.{Config}
use Rattle.txn_types.specs.declared.stream.CutLimits.{CutLimits}
use Rattle.txn_types.specs.declared.stream.Piece.TheVariants as piece
use Rattle.oxii_defs.specs.Table.{Table}
use Rattle.oxii_defs.specs.Lawful.{IsLawfulTxn, IsLawfulBody, IsLawfulConfig}
use Rattle.oxii_defs.specs.BlockBytes.{txn_bytes}
use Rattle.node_defs.specs.Cutting.{AdmittedItem, carried_body, EndsBefore, EndRightly, IsPart, IsCutting}
use Rattle.node_defs.specs.LawfulItems.{AreLawfulLimits}
use Rattle.block_cutter.specs.Standing.{block_of, AreClosed, IsOpen, Stands}
use Rattle.block_cutter.proofs.OpenLemmas.{all_push, last_push, unmarked_push, call, txns_push, bytes_push, count, open_part, open_block, block_lawful}

-- a configuration that is admitted
abbrev pub config : Config → Bool → AdmittedItem
config c m = record { piece = piece.Config c; marked = m }

module _ (table : Table) (limits : CutLimits) (in_range : AreLawfulLimits limits) where
  -- HOW LISTS END

  ends_more : (lists : List (List AdmittedItem)) (list next : List AdmittedItem) → EndRightly table limits (lists ++ list ∷ []) → EndsBefore table limits list next → EndRightly table limits ((lists ++ list ∷ []) ++ next ∷ [])
  ends_more [] list next ends before = (before, tt)
  ends_more (x ∷ []) list next ends before = (ends.0, (before, tt))
  ends_more (x ∷ y ∷ rest) list next ends before = (ends.0, ends_more (y ∷ rest) list next ends.1 before)

  ends_front : (lists : List (List AdmittedItem)) (list : List AdmittedItem) → EndRightly table limits (lists ++ list ∷ []) → EndRightly table limits lists
  ends_front [] list ends = tt
  ends_front (x ∷ []) list ends = tt
  ends_front (x ∷ y ∷ rest) list ends = (ends.0, ends_front (y ∷ rest) list ends.1)

  -- CLOSING THE OPEN BLOCK

  -- the lists with the open one, where that has transactions
  record IsShut (closed : List (List AdmittedItem)) (current : List AdmittedItem) (bodies : List Body) : Type 0 where
    lists : List (List AdmittedItem)
    whole : flat_map (λ list. list) lists ≡ flat_map (λ list. list) closed ++ current
    are_closed : AreClosed table limits bodies lists
    done : EndRightly table limits lists
    ends : (next : List AdmittedItem) → (0 < length current → EndsBefore table limits current next) → EndRightly table limits (lists ++ next ∷ [])

  lawful_more : (bodies : List Body) (txns : List Txn) (bytes : ℕ) (current : List AdmittedItem) → All (λ b. IsLawfulBody table b.txns b.config) bodies → IsOpen table limits txns bytes current → All (λ b. IsLawfulBody table b.txns b.config) (bodies ++ block_of txns)
  lawful_more bodies txns bytes current lawful o =
      let n = count current o.calls in
      let same = ap length o.carried in
      All-append (λ (b : Body). IsLawfulBody table b.txns b.config) bodies (block_of txns) lawful
      (block_lawful table txns o.lawful (omega (arith, n, same, o.few, in_range.txns.1)))

  shut : (closed : List (List AdmittedItem)) (current : List AdmittedItem) (bodies : List Body) (txns : List Txn) (bytes : ℕ) →
      AreClosed table limits bodies closed → IsOpen table limits txns bytes current → ((more : List AdmittedItem) → EndRightly table limits (closed ++ (current ++ more) ∷ [])) → IsShut closed current (bodies ++ block_of txns)
  shut closed [] bodies txns bytes c o ends = record {
    lists = closed;
    whole = sym (append-nil (flat_map (λ list. list) closed));
    are_closed = record {
      parts = c.parts;
      carried = ap (λ (ts : List Txn). bodies ++ block_of ts) o.carried ∙ append-nil bodies ∙ c.carried;
      lawful = lawful_more bodies txns bytes [] c.lawful o;
    };
    done = ends_front closed [] (ends []);
    ends = λ next before. ends next;
  }
  shut closed (x ∷ xs) bodies txns bytes c o ends =
      let filled : 0 < length (x ∷ xs) = omega arith in
      let done : EndRightly table limits (closed ++ (x ∷ xs) ∷ []) = subst (λ (l : List AdmittedItem). EndRightly table limits (closed ++ l ∷ [])) (append-nil (x ∷ xs)) (ends []) in
      record {
        lists = closed ++ (x ∷ xs) ∷ [];
        whole = flat_map-append (λ (list : List AdmittedItem). list) closed ((x ∷ xs) ∷ []) ∙ ap (λ l. flat_map (λ (list : List AdmittedItem). list) closed ++ l) (append-nil (x ∷ xs));
        are_closed = record {
          parts = all_push (IsPart table limits) closed (x ∷ xs) c.parts (open_part table limits txns bytes (x ∷ xs) o filled);
          carried = ap (λ (bs : List Body). bs ++ block_of txns) c.carried ∙ ap (λ (bs : List Body). map carried_body closed ++ bs) (open_block table limits txns bytes (x ∷ xs) o filled) ∙ sym (map-append carried_body closed ((x ∷ xs) ∷ []));
          lawful = lawful_more bodies txns bytes (x ∷ xs) c.lawful o;
        };
        done = done;
        ends = λ next before. ends_more closed (x ∷ xs) next done (before filled);
      }

  nothing_open : IsOpen table limits [] 0 []
  nothing_open = record { calls = tt; carried = refl; lawful = All-nil (IsLawfulTxn table); few = omega arith; counted = refl; small = omega arith; unmarked = tt }

  module _ (all left : List AdmittedItem) (marked : Bool) (bodies : List Body) (txns : List Txn) (bytes : ℕ) where
    shut_of : (s : Stands table limits all marked left bodies txns bytes) → IsShut s.closed s.current (bodies ++ block_of txns)
    shut_of s = shut s.closed s.current bodies txns bytes s.are_closed s.is_open s.ends

    emptied : (s : Stands table limits all marked left bodies txns bytes) → ((more : List AdmittedItem) → 0 < length s.current → EndsBefore table limits s.current more) →
        (m : Bool) → Stands table limits all m left (bodies ++ block_of txns) [] 0
    emptied s before m =
        let h = shut_of s in
        record {
          closed = h.lists;
          current = [];
          whole = ap (λ l. l ++ left) h.whole ∙ append_assoc (flat_map (λ (list : List AdmittedItem). list) s.closed) s.current left ∙ s.whole;
          are_closed = h.are_closed;
          is_open = nothing_open;
          ends = λ more. h.ends more (before more);
          last = λ filled. absurd (omega (arith, filled));
        }

    -- a full block is closed
    pub closed_full : Stands table limits all marked left bodies txns bytes → length txns ≡ limits.txns → (m : Bool) → Stands table limits all m left (bodies ++ block_of txns) [] 0
    closed_full s full =
        let n = count s.current s.is_open.calls in
        let same = ap length s.is_open.carried in
        emptied s (λ more filled. inr (inl (omega (arith, n, same, full))))

  -- a mark closes a block
  pub closed_marked : (all left : List AdmittedItem) (bodies : List Body) (txns : List Txn) (bytes : ℕ) → Stands table limits all true left bodies txns bytes → (m : Bool) → Stands table limits all m left (bodies ++ block_of txns) [] 0
  closed_marked all left bodies txns bytes s = emptied all left true bodies txns bytes s (λ more filled. inr (inr (inr (inl (s.last filled)))))

  -- at the end the lists are a cutting
  pub finished : (all : List AdmittedItem) (marked : Bool) (bodies : List Body) (txns : List Txn) (bytes : ℕ) → Stands table limits all marked [] bodies txns bytes →
      (lists : List (List AdmittedItem)) × IsCutting table limits all lists × (bodies ++ block_of txns ≡ map carried_body lists)
  finished all marked bodies txns bytes s =
      let h = shut_of all [] marked bodies txns bytes s in (
        h.lists,
        record {
          whole = h.whole ∙ ap (λ l. flat_map (λ (list : List AdmittedItem). list) s.closed ++ l) (sym (append-nil s.current)) ∙ s.whole;
          parts = h.are_closed.parts;
          ends = h.done;
        },
        h.are_closed.carried,
      )

  pub finished_lawful : (all : List AdmittedItem) (marked : Bool) (bodies : List Body) (txns : List Txn) (bytes : ℕ) → Stands table limits all marked [] bodies txns bytes →
      All (λ b. IsLawfulBody table b.txns b.config) (bodies ++ block_of txns)
  finished_lawful all marked bodies txns bytes s = let h = shut_of all [] marked bodies txns bytes s in h.are_closed.lawful

  -- ITEM BY ITEM

  pub started : (all : List AdmittedItem) (marked : Bool) → Stands table limits all marked all [] [] 0
  started all marked = record {
    closed = [];
    current = [];
    whole = refl;
    are_closed = record { parts = tt; carried = refl; lawful = All-nil (λ b. IsLawfulBody table b.txns b.config) };
    is_open = nothing_open;
    ends = λ more. tt;
    last = λ filled. absurd (omega (arith, filled));
  }

  -- a transaction that the open block has room for
  pub pushed : (all left : List AdmittedItem) (t : Txn) (m : Bool) (bodies : List Body) (txns : List Txn) (bytes more : ℕ) → Stands table limits all false (call t m ∷ left) bodies txns bytes →
      IsLawfulTxn table t → more ≡ length (txn_bytes table t) → length txns < limits.txns → bytes + more ≤ limits.bytes → Stands table limits all m left bodies (txns ++ t ∷ []) (bytes + more)
  pushed all left t m bodies txns bytes more s lawful_txn size room small =
      let x = call t m in
      let o = s.is_open in
      let n = count s.current o.calls in
      let same = ap length o.carried in
      record {
        closed = s.closed;
        current = s.current ++ x ∷ [];
        whole = ap (λ l. flat_map (λ (list : List AdmittedItem). list) s.closed ++ l) (append_assoc s.current (x ∷ []) left) ∙ s.whole;
        are_closed = s.are_closed;
        is_open = record {
          calls = all_push _ s.current x o.calls (t, refl);
          carried = ap (λ (ts : List Txn). ts ++ t ∷ []) o.carried ∙ sym (txns_push s.current t m);
          lawful = All-push (IsLawfulTxn table) txns t o.lawful lawful_txn;
          few = omega (arith, length-append s.current (x ∷ []), n, same, room);
          counted = omega (arith, bytes_push table s.current t m, o.counted, size);
          small = small;
          unmarked = unmarked_push s.current x s.last o.unmarked;
        };
        ends = λ next. subst (λ (l : List AdmittedItem). EndRightly table limits (s.closed ++ l ∷ [])) (sym (append_assoc s.current (x ∷ []) next)) (s.ends (x ∷ next));
        last = λ filled. last_push s.current x;
      }

  -- a transaction that would be too much for the open block, and begins the next one
  pub pushed_over : (all left : List AdmittedItem) (t : Txn) (m : Bool) (bodies : List Body) (txns : List Txn) (bytes more : ℕ) → Stands table limits all false (call t m ∷ left) bodies txns bytes →
      IsLawfulTxn table t → more ≡ length (txn_bytes table t) → more ≤ limits.bytes → limits.bytes < bytes + more → Stands table limits all m left (bodies ++ block_of txns) (t ∷ []) more
  pushed_over all left t m bodies txns bytes more s lawful_txn size small over =
      let x = call t m in
      let h = shut_of all (x ∷ left) false bodies txns bytes s in
      let o = s.is_open in
      record {
        closed = h.lists;
        current = x ∷ [];
        whole = ap (λ l. l ++ x ∷ left) h.whole ∙ append_assoc (flat_map (λ (list : List AdmittedItem). list) s.closed) s.current (x ∷ left) ∙ s.whole;
        are_closed = h.are_closed;
        is_open = record {
          calls = ((t, refl), tt);
          carried = refl;
          lawful = All-cons (IsLawfulTxn table) t [] lawful_txn (All-nil (IsLawfulTxn table));
          few = omega (arith, in_range.txns.0);
          counted = omega (arith, bytes_push table [] t m, size);
          small = small;
          unmarked = tt;
        };
        ends = λ next. h.ends (x ∷ next) (λ filled. inr (inr (inl (omega (arith, bytes_push table s.current t m, o.counted, size, over)))));
        last = λ filled. refl;
      }

  -- a configuration, which is a block by itself
  pub configured : (all left : List AdmittedItem) (c : Config) (m : Bool) (bodies : List Body) (txns : List Txn) (bytes : ℕ) → Stands table limits all false (config c m ∷ left) bodies txns bytes →
      IsLawfulConfig table c → Stands table limits all m left ((bodies ++ block_of txns) ++ record { txns = []; config = Some c } ∷ []) [] 0
  configured all left c m bodies txns bytes s lawful_config =
      let x = config c m in
      let h = shut_of all (x ∷ left) false bodies txns bytes s in
      let P : Body → Type 0 = λ b. IsLawfulBody table b.txns b.config in
      record {
        closed = h.lists ++ (x ∷ []) ∷ [];
        current = [];
        whole =
            ap (λ l. l ++ left) (flat_map-append (λ (list : List AdmittedItem). list) h.lists ((x ∷ []) ∷ []) ∙ ap (λ l. l ++ x ∷ []) h.whole)
            ∙ append_assoc (flat_map (λ (list : List AdmittedItem). list) s.closed ++ s.current) (x ∷ []) left
            ∙ append_assoc (flat_map (λ (list : List AdmittedItem). list) s.closed) s.current (x ∷ left) ∙ s.whole;
        are_closed = record {
          parts = all_push (IsPart table limits) h.lists (x ∷ []) h.are_closed.parts (record { filled = omega arith; alone = tt; few = omega arith; small = omega arith; unmarked = tt });
          carried = ap (λ (bs : List Body). bs ++ record { txns = []; config = Some c } ∷ []) h.are_closed.carried ∙ sym (map-append carried_body h.lists ((x ∷ []) ∷ []));
          lawful = All-push P (bodies ++ block_of txns) (record { txns = []; config = Some c }) h.are_closed.lawful (refl, lawful_config);
        };
        is_open = nothing_open;
        ends = λ next. ends_more h.lists (x ∷ []) next (h.ends (x ∷ []) (λ filled. inr (inr (inr (inr (c, refl)))))) (inl (c, refl));
        last = λ filled. absurd (omega (arith, filled));
      }

  -- EQUAL STATES

  pub moved : (all left : List AdmittedItem) (marked : Bool) (bodies bodies' : List Body) (txns txns' : List Txn) (bytes bytes' : ℕ) → bodies' ≡ bodies → txns' ≡ txns → bytes' ≡ bytes →
      Stands table limits all marked left bodies txns bytes → Stands table limits all marked left bodies' txns' bytes'
  moved all left marked bodies bodies' txns txns' bytes bytes' e f g s =
      subst (λ (n : ℕ). Stands table limits all marked left bodies' txns' n) (sym g)
      (subst (λ (ts : List Txn). Stands table limits all marked left bodies' ts bytes) (sym f)
      (subst (λ (bs : List Body). Stands table limits all marked left bs txns bytes) (sym e) s))
