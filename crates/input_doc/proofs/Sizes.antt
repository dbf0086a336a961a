-- The sizes of lists of names, and of what is counted by them.
use Rattle.std.proofs.Common.{◌≡◌, ◌≤◌, ℕ, List, [], length, Option, Ok, arith}
use Rattle.std.specs.Prelude.{codes}
use Rattle.std.specs.List.{All}
use Rattle.serde_json.specs.Data.{Data, Members}
use Rattle.serde_json.specs.Find.{get_member}
use Rattle.txn_types.specs.Names.{IsName}
use Rattle.oxii_defs.specs.Lawful.{IsUpTo}
use Rattle.doc_forms.specs.declared.fault.Which.TheVariants as word
use Rattle.doc_forms.specs.Forms.{list_at, number_at}
use Rattle.doc_forms.specs.Tables.{new_name}
use Rattle.doc_forms.specs.Meaning.{HasNames, SaysName}
use Rattle.doc_forms.proofs.SortedOnce.{all_of}
use Rattle.doc_forms.proofs.LookUps.{AreNumbered, NodesDiffer, differ_at_the_end}
use Rattle.doc_forms.proofs.Meant.{number_at_means}
use Rattle.doc_forms.proofs.NamesMeant.{names_at_mean}
use Rattle.doc_forms.proofs.SetsMeant.{length_of_said, said_of}

-- 1 to 16 names are as many names
pub names_fit : (taken : List (List ℕ)) (v : Option Data) (names : List (List ℕ)) → HasNames taken 1 16 v names → IsUpTo 16 (length names) × All IsName names
names_fit taken v names h =
    let count = length_of_said SaysName h.list.items names h.list.each in (
      (omega (arith, count, h.list.least), omega (arith, count, h.list.most)),
      all_of IsName names (λ x in_names. (said_of SaysName h.list.items names x h.list.each in_names).1.1),
    )

-- so few names are numbered by a byte
pub peers_numbered : (orderers : List (List ℕ)) (v : Option Data) (peers : List (List ℕ)) → HasNames orderers 1 16 v peers → AreNumbered 256 peers
peers_numbered orderers v peers h =
    let fit = (names_fit orderers v peers h).0 in
    record { differ = differ_at_the_end orderers peers h.differ; few = omega (arith, fit.1) }

-- and orderers and peers differ from each other
pub nodes_differ : (v w : Option Data) (orderers peers : List (List ℕ)) → HasNames [] 1 16 v orderers → HasNames orderers 1 16 w peers → NodesDiffer orderers peers
nodes_differ v w orderers peers h k =
    let few = (names_fit [] v orderers h).0 in
    let fit = (names_fit orderers w peers k).0 in
    record { differ = k.differ; few_orderers = omega (arith, few.1); few_peers = omega (arith, fit.1) }

-- a quorum is at most the count of orderers, which is at most 16
pub quorum_fits : (ms : Members) (orderers : List (List ℕ)) (n : ℕ) → list_at (codes "orderers") 1 16 word.Orderers (new_name []) [] ms ≡ Ok orderers → number_at (codes "quorum") 1 (length orderers) word.Quorum ms ≡ Ok n → n ≤ 16
quorum_fits ms orderers n named numbered =
    let h = names_at_mean [] (codes "orderers") 1 16 word.Orderers ms orderers tt named in
    let fit = (names_fit [] (get_member (codes "orderers") ms) orderers h).0 in
    let most = number_at_means (codes "quorum") 1 (length orderers) word.Quorum ms n numbered in
    omega (arith, fit.1, most.2)
