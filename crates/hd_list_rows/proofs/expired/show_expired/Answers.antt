use Rattle.std.proofs.Common.{arith, rules, ◌≡◌, refl, sym, ◌∙◌, ap, subst, ℕ, ◌+◌, ◌-◌, ◌*◌, ◌<◌, ◌≤◌, List}
use Rattle.std.proofs.Common.{[], ◌++◌, Some, length, length-append}
use Rattle.hd_rules.specs.declared.views.TitleHold.{TitleHold}
use Rattle.hd_catalogue.specs.Contents.{Contents, facts_of}
use Rattle.hd_desk.specs.Asking.{queues_of}
use Rattle.hd_desk.specs.Desks.{desk_of, facts}
use Rattle.hd_list_rows.specs.Expired.{IsExpiredPage, expired_row, expired_rows, from_stamp, of_title, of_titles}
use Rattle.hd_list_rows.specs.Expired.{title_left}
use Rattle.hd_list_rows.proofs.Expiring.{ends_before, title_more, with_others}
use Rattle.hd_list_rows.proofs.expired.show_expired.Goals as goal

pub returns-in-Some-clause-page : goal.returns-in-Some-clause-page
returns-in-Some-clause-page g c =
    let k = facts c.args.desk.now in
    let d = desk_of c.args.desk.now in
    let queues = queues_of c.args.desk.now in
    let number = c.loop-number.number in
    let stamp = c.loop-number.stamp in
    let patron = c.in-Some.patron in
    let title : c.unwrap-title.result ≡ number = search rules in
    let from : c.from.result ≡ number = c.from.ensures in
    let told : c.from-in-Some.result ≡ patron = c.from-in-Some.ensures ∙ c.number.ensures.value in
    let place : c.from.result * 1000001 + c.from-in-Some.result + 1 ≡ number * 1000001 + patron + 1 =
    omega (arith, from, told) in
    let count : c.titles-titles.result ≡ k.titles = c.titles-titles.ensures.count
    ∙ ap (λ (contents : Contents). (facts_of contents).titles) (c.deref.ensures ∙ c.catalogue.ensures) in
    let less : number < k.titles =
    omega (arith, c.loop-number-test.true, c.last_walked-end.ensures.within, count) in
    let few : patron < 1000000 = omega (arith, c.number.ensures.value, c.number.ensures.in_range) in
    let rows = subst (λ (t : ℕ). c.list_expired.new.page.rows
    ++ expired_rows k d c.args.day (title_left d queues t (Some patron))
    ≡ c.loop-number.page.rows ++ expired_rows k d c.args.day (of_title t (from_stamp stamp (queues t)))) title
    c.in-Some.ensures.rows in
    let left = subst (λ (t : ℕ). c.loop-number.left + length (title_left d queues t (Some patron))
    ≡ c.list_expired.new.left + length (of_title t (from_stamp stamp (queues t)))) title
    c.in-Some.ensures.left in
    let same = c.go_on.ensures
    ∙ ap (λ (n : ℕ). record c.list_expired.new.page { next = Some n }) place in
    subst (IsExpiredPage k d queues c.args.day c.args.first) (sym same)
    (ends_before k d queues c.args.day c.args.first number stamp patron c.loop-number.left
    c.list_expired.new.left c.loop-number.page c.list_expired.new.page less few c.loop-number.invariant.1
    c.loop-number.invariant.2 rows left c.in-Some.ensures.far)

pub loop-number-preserved : goal.loop-number-preserved
loop-number-preserved g c =
    let k = facts c.args.desk.now in
    let d = desk_of c.args.desk.now in
    let queues = queues_of c.args.desk.now in
    let number = c.loop-number.number in
    let stamp = c.loop-number.stamp in
    let old = c.loop-number.page.rows in
    let new = c.list_expired.new.page.rows in
    let title : c.unwrap-title.result ≡ number = search rules in
    let count : c.titles-titles.result ≡ k.titles = c.titles-titles.ensures.count
    ∙ ap (λ (contents : Contents). (facts_of contents).titles) (c.deref.ensures ∙ c.catalogue.ensures) in
    let less : number < k.titles =
    omega (arith, c.loop-number-test.true, c.last_walked-end.ensures.within, count) in
    let all : List TitleHold = of_title number (from_stamp stamp (queues number)) in
    let none : List TitleHold = [] in
    let others : List TitleHold = of_titles queues (k.titles - (number + 1)) (number + 1) 0 in
    let more : of_titles queues (k.titles - number) number stamp ≡ all ++ others =
    title_more queues k.titles number stamp less in
    let rows = subst (λ (t : ℕ). new ++ expired_rows k d c.args.day none
    ≡ old ++ expired_rows k d c.args.day (of_title t (from_stamp stamp (queues t)))) title
    c.in_default.ensures.rows in
    let left = subst (λ (t : ℕ). c.loop-number.left + length none
    ≡ c.list_expired.new.left + length (of_title t (from_stamp stamp (queues t)))) title
    c.in_default.ensures.left in
    let whole : length (of_titles queues (k.titles - number) number stamp) ≡ length all + length others =
    ap (λ (hs : List TitleHold). length hs) more ∙ length-append all others in
    let zero : length none ≡ 0 = refl in (
      c.list_expired.ensures.next ∙ c.loop-number.invariant.0,
      with_others (expired_row k d c.args.day) new old none all others rows
          ∙ ap (λ (hs : List TitleHold). old ++ expired_rows k d c.args.day hs) (sym more)
          ∙ c.loop-number.invariant.1,
      omega (arith, left, whole, zero, c.loop-number.invariant.2),
      omega (arith, c.loop-number.invariant.3),
      λ below. refl,
    )
