use Rattle.std.proofs.Common.{rules, refl, ◌≡◌, sym, subst, OnOk, Some}
use Rattle.std.proofs.lemmas.Result.{on_ok_weaker}
use Rattle.hd_json.specs.Values.{text}
use Rattle.hd_list_pages.specs.declared.part.Part.{Part}
use Rattle.hd_list_pages.specs.declared.part.Part.TheVariants.{Day}
use Rattle.hd_list_pages.specs.Writing.{WritesPart}
use Rattle.hd_list_pages.proofs.writing.write_part.Goals as goal

pub returns-in-Day-Some : goal.returns-in-Day-Some
returns-in-Day-Some g c =
    let same : c.args.part.now ≡ Day (Some c.in-Day-Some.day) = search rules in
    subst (λ (p : Part). OnOk c.write_text.result
    (WritesPart c.args.catalogue.now p c.args.out.now.items c.write_text.new.out.items)) (sym same)
    (on_ok_weaker c.write_text.result
    (λ is. (text c.day_text.result, (c.day_text.result, c.day_text.ensures, refl), is)) c.write_text.ensures)
