use Rattle.std.proofs.Common.{◌≡◌, sym, subst}
use Rattle.hd_rules.specs.Known.{IsKnownQuestion}
use Rattle.hd_rules.specs.Notes.{note}
use Rattle.hd_desk.specs.Asking.{InquiryValue}
use Rattle.hd_desk.specs.Desks.{desk_of, facts}
use Rattle.hd_desk.proofs.Planned.{keep-more}
use Rattle.hd_desk.proofs.inquiry.Inquiry.keep.Goals as goal

pub invariant_of-self : goal.invariant_of-self
invariant_of-self g c =
    keep-more (facts c.self.inside.desk.now) (desk_of c.self.inside.desk.now) c.self.inside.findings
    c.args.question c.args.noted
    c.push.new.self c.push.ensures
    c.self.invariant.0 c.self.invariant.1
    (subst (λ (x : InquiryValue). IsKnownQuestion (facts x.desk) c.args.question) (sym c.self.view_is)
    c.requires.known)
    (subst (λ (x : InquiryValue). c.args.noted ≡ note (facts x.desk) (desk_of x.desk) c.args.question)
    (sym c.self.view_is)
    c.requires.noted)
