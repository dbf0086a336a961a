-- The first keys of a document give Ok exactly where they say it.
use Rattle.std.proofs.Common.{◌≡◌, ℕ, Bool, true, false, cond, List, Option, Some, None, option_and_then, Result, Ok, refl, ap, subst, ◌∙◌, eqb}
use Rattle.std.specs.Prelude.{codes, ⊤}
use Rattle.std.specs.Str.{bytes_eq}
use Rattle.std.proofs.lemmas.Slice.Eq.{bytes_eq-Decides}
use Rattle.std.proofs.lemmas.Bool.Decides.{Decides-eqb}
use Rattle.serde_json.specs.Data.{Members, number, unsigned}
use Rattle.serde_json.specs.Find.{as_str, get_member}
use Rattle.txn_types.specs.declared.txn.Kind.{Kind}
use Rattle.txn_types.specs.declared.txn.Kind.TheVariants.{Full, Raw}
use Rattle.txn_types.specs.declared.stream.CutLimits.{CutLimits}
use Rattle.doc_forms.specs.declared.fault.Step.TheVariants.{Key}
use Rattle.doc_forms.specs.declared.fault.Which.TheVariants as word
use Rattle.doc_forms.specs.Faults.{Fault}
use Rattle.doc_forms.specs.Forms as form
use Rattle.doc_forms.specs.Forms.{wanted, whole, number_at}
use Rattle.doc_forms.specs.Meaning.{HasText}
use Rattle.doc_forms.proofs.Meant.{bind_ok, within_ok, wanted_ok, whole_is, text_is, passed, members_are, number_at_means, number_at_reads, only_means, only_reads}
use Rattle.input_doc.specs.Head.{version, version_at, kind_named, kind, graph_kind_at, cut, cut_at}
use Rattle.input_doc.specs.HeadMeaning.{graph_kind_word, SaysCut}

-- the version

pub version_means : (ms : Members) (u : ⊤) → version_at (codes "version") ms ≡ Ok u → get_member (codes "version") ms ≡ Some (number (unsigned 1))
unfolding version_at version
version_means ms u e =
    let v = within_ok (Key (codes "version")) _ u e in
    let a = bind_ok (wanted (whole (get_member (codes "version") ms))) _ u v in
    let p = passed (eqb a.0 1) tt u _ a.2 in
    whole_is (get_member (codes "version") ms) 1 (wanted_ok _ _ a.1 ∙ ap (λ (n : ℕ). Some n) ((Decides-eqb a.0 1).0 p.0))

pub version_reads : (ms : Members) → get_member (codes "version") ms ≡ Some (number (unsigned 1)) → version_at (codes "version") ms ≡ Ok tt
unfolding version_at version
version_reads ms h = rw h refl

-- the kind

kind_is : (text : List ℕ) (k : Kind) → kind_named text ≡ Some k → text ≡ graph_kind_word k
unfolding kind_named
kind_is text k e = by_full (bytes_eq text (codes "full")) refl e
  where
    raw : Option Kind
    raw = cond (bytes_eq text (codes "raw")) (Some Raw) None

    by_word : (j : Kind) → text ≡ graph_kind_word j → Some j ≡ Some k → text ≡ graph_kind_word k
    by_word j is same = let one : j ≡ k = cc in is ∙ ap graph_kind_word one

    by_raw : (b : Bool) → bytes_eq text (codes "raw") ≡ b → cond b (Some Raw) None ≡ Some k → text ≡ graph_kind_word k
    by_raw true is same = by_word Raw ((bytes_eq-Decides text (codes "raw")).0 is) same
    by_raw false is same = absurd cc

    by_full : (b : Bool) → bytes_eq text (codes "full") ≡ b → cond b (Some Full) (cond (bytes_eq text (codes "raw")) (Some Raw) None) ≡ Some k → text ≡ graph_kind_word k
    by_full true is same = by_word Full ((bytes_eq-Decides text (codes "full")).0 is) same
    by_full false is same = by_raw (bytes_eq text (codes "raw")) refl same

kind_told : (k : Kind) → kind_named (graph_kind_word k) ≡ Some k
unfolding kind_named
kind_told Full = refl
kind_told Raw = refl

pub kind_means : (ms : Members) (k : Kind) → graph_kind_at (codes "kind") ms ≡ Ok k → HasText (get_member (codes "kind") ms) (graph_kind_word k)
unfolding graph_kind_at kind
kind_means ms k e =
    let v = within_ok (Key (codes "kind")) _ k e in
    let a = bind_ok (wanted (option_and_then as_str (get_member (codes "kind") ms))) _ k v in
    text_is (get_member (codes "kind") ms) (graph_kind_word k) (wanted_ok _ _ a.1 ∙ ap (λ (t : List ℕ). Some t) (kind_is a.0 k (wanted_ok (kind_named a.0) k a.2)))

pub kind_reads : (ms : Members) (k : Kind) → HasText (get_member (codes "kind") ms) (graph_kind_word k) → graph_kind_at (codes "kind") ms ≡ Ok k
unfolding graph_kind_at kind
kind_reads ms k h = rw (h, kind_told k) refl

-- how the stream is cut

abbrev limits_are : CutLimits → Result CutLimits Fault
limits_are limits = Ok limits

same_limits : (x y : CutLimits) → limits_are x ≡ limits_are y → x ≡ y
same_limits x y h = cc

pub cut_means : (ms : Members) (limits : CutLimits) → cut_at (codes "cut") ms ≡ Ok limits → SaysCut (get_member (codes "cut") ms) limits
unfolding cut_at cut
cut_means ms limits e =
    let v = within_ok (Key (codes "cut")) _ limits e in
    let members = bind_ok (form.object (get_member (codes "cut") ms)) _ limits v in
    let txns = bind_ok (number_at (codes "txns") 1 256 word.Cut members.0) _ limits members.2 in
    let bytes = bind_ok (number_at (codes "bytes") 2048 1048576 word.Cut members.0) _ limits txns.2 in
    let rest = bind_ok (form.only _ members.0) _ limits bytes.2 in
    subst (SaysCut (get_member (codes "cut") ms)) (same_limits (record { txns = txns.0; bytes = bytes.0 }) limits rest.2) (record {
      members = members.0;
      is = members_are (get_member (codes "cut") ms) members.0 members.1;
      txns = number_at_means (codes "txns") 1 256 word.Cut members.0 txns.0 txns.1;
      bytes = number_at_means (codes "bytes") 2048 1048576 word.Cut members.0 bytes.0 bytes.1;
      only = only_means _ members.0 rest.0 rest.1;
    })

pub cut_reads : (ms : Members) (limits : CutLimits) → SaysCut (get_member (codes "cut") ms) limits → cut_at (codes "cut") ms ≡ Ok limits
unfolding cut_at cut
cut_reads ms limits h =
    rw (h.is, number_at_reads (codes "txns") 1 256 word.Cut h.members limits.txns h.txns, number_at_reads (codes "bytes") 2048 1048576 word.Cut h.members limits.bytes h.bytes, only_reads _ h.members h.only) refl
