use Rattle.std.proofs.Common.{◌≡◌, ◌≤◌, ℕ, ◌∙◌, sym, ap, subst}
use Rattle.hd_rules.specs.Desk.{at_home}
use Rattle.hd_rules.specs.Sound.{Sound}
use Rattle.hd_rules.specs.Facts.{first_number}
use Rattle.hd_catalogue.specs.Contents.{Contents, facts_of}
use Rattle.hd_desk.specs.Desks.{Opens, contents, desk_of}
use Rattle.hd_desk.specs.Rows.{AreTold}
use Rattle.hd_desk.proofs.Telling.{opens-told, sound-told, told-home}
use Rattle.hd_desk.proofs.desk.Desk.open.Given.{Over}
use Rattle.hd_desk.proofs.desk.Desk.open.Goals.{After-drop-catalogue-2}
use Rattle.hd_desk.proofs.desk.Desk.open.Goals as goal

-- the catalogue is read as it was given
same : (g : Over) (c : After-drop-catalogue-2 g) → contents c.in_ok-desk.desk ≡ c.deref.result.now
same g c = c.in_ok-desk.ensures.contents ∙ c.in_ok-try_clone.ensures ∙ sym c.deref.ensures

told : (g : Over) (c : After-drop-catalogue-2 g)
    → AreTold (facts_of c.deref.result.now) (at_home (facts_of c.deref.result.now).home)
    c.opening.result.now (desk_of c.put_rows.new.self)
told g c =
    told-home c.deref.result.now (contents c.in_ok-desk.desk) (desk_of c.in_ok-desk.desk)
    (desk_of c.put_rows.new.self)
    c.opening.result.now (same g c)
    (c.in_ok-desk.ensures.desk
    ∙ ap (λ (x : Contents). at_home (facts_of x).home) (c.in_ok-try_clone.ensures ∙ sym c.deref.ensures))
    c.in_ok-put_rows.ensures.ok

pub returns-clause-opens : goal.returns-clause-opens
returns-clause-opens g c =
    let k = facts_of c.deref.result.now in
    subst (λ (x : Contents). Opens (facts_of x)) (sym (c.in_ok-put_rows.ensures.contents ∙ same g c))
    (opens-told k c.opening.result.now (desk_of c.put_rows.new.self) (told g c) c.opening.ensures.desk
    (c.known_rows_tell_a_known_desk.ensures.told k c.opening.result.now c.opening.ensures.facts
    c.opening.ensures.known))

pub returns-clause-sound : goal.returns-clause-sound
returns-clause-sound g c =
    subst (λ (x : Contents). (n : ℕ) → first_number (facts_of x) ≤ n
    → Sound (facts_of x) n (desk_of c.put_rows.new.self))
    (sym (c.in_ok-put_rows.ensures.contents ∙ same g c))
    (λ n above. sound-told (facts_of c.deref.result.now) _ (desk_of c.put_rows.new.self) c.opening.result.now
    n (told g c) above)
