use Rattle.std.proofs.Common.{◌≡◌, ◌∙◌, Option, Some, true, sym, refl, ℕ}
use Rattle.std.specs.Prelude.{is_some}
use Rattle.hd_diagnosis.proofs.NameLemmas.{lookup-entry}
use Rattle.hd_diagnosis.proofs.defined.Defined.name_at.Goals as goal

some_of : {o : Option ℕ} {n : ℕ} → o ≡ Some n → is_some o ≡ true
some_of e = rw e refl

pub returns-in-Some : goal.returns-in-Some
returns-in-Some c =
    let there = sym (lookup-entry (λ v. v.items) c.in-Some.name.now.items c.self.inside.lines.entries)
    ∙ c.in-Some.ensures.value in
    rw (← c.self.view_is, c.as_slice.ensures.value) (some_of there)
