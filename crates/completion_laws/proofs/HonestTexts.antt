-- Where nobody is faulty, an `all` makes a text that of serial runs of the whole chain.
use Rattle.std.specs.Prelude.{[]}
use Rattle.std.proofs.Common.{subst, sym}
use Rattle.node_defs.specs.Tame.{IsTame}
use Rattle.node_defs.proofs.Settings.{agreed_setting_is}
use Rattle.node_laws.proofs.Bodies.{lawful_bodies}
use Rattle.text_laws.specs.SerialText.{IsTameInput}
use Rattle.completion_laws.specs.Staffed.{IsWellStaffed}
use Rattle.completion_laws.specs.TextLaws.{HonestTextsAreWhole}
use Rattle.completion_laws.specs.WholeText.{IsWellStaffedInput}
use Rattle.completion_laws.proofs.Exact.{nobody_faulty}
use Rattle.completion_laws.proofs.WholeTexts.{whole_texts}

pub honest_texts : HonestTextsAreWhole
honest_texts table genesis items limits events lines lawful state fair items_lawful all said printed =
    let tame : IsTameInput table genesis items limits [] = λ s given.
    subst IsTame (sym (agreed_setting_is table genesis items limits [] s given)) (nobody_faulty table genesis items given.bodies lawful (lawful_bodies table limits items given.bodies fair items_lawful given.agreed)).0 in
    let staffed : IsWellStaffedInput table genesis items limits [] = λ s given.
    subst IsWellStaffed (sym (agreed_setting_is table genesis items limits [] s given)) (nobody_faulty table genesis items given.bodies lawful (lawful_bodies table limits items given.bodies fair items_lawful given.agreed)).1 in
    whole_texts table genesis items limits [] events lines lawful state fair items_lawful tame staffed all said printed
