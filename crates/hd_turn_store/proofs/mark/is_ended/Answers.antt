use Rattle.std.proofs.Common.{◌≡◌, ◌↔◌, ◌∙◌, ℕ, ◌≤◌, ◌*◌, ◌-◌, List, [], ◌∷◌, ◌++◌, Option, inl, inr, arith}
use Rattle.std.proofs.Common.{ap, codes, subst, sym, take, take-take, unwrap_or, IsTrue}
use Rattle.std.proofs.lemmas.Bool.Decides.{nat_tests}
use Rattle.sqlite_pool.specs.File.{header_in}
use Rattle.sqlite_pool.specs.Stored.{reserved, stored_size}
use Rattle.sqlite_pool.specs.StoredLaws.{trimmed_some}
use Rattle.sqlite_pages.specs.PageMap.{PageMap}
use Rattle.sqlite_wal.specs.Format.{part}
use Rattle.sqlite_wal.specs.Recovery.{Pages, Replays, pages_after}
use Rattle.sqlite_wal.proofs.AppendLemmas.{some_value, page_from_pages}
use Rattle.hd_turn_store.specs.Words.{HoldsDatabase, Image, Trees, user_version, version_rows, version_tree}
use Rattle.hd_turn_store.specs.Marks.{HasMark, SaysMark, ended_mark}
use Rattle.hd_turn_store.proofs.mark.is_ended.Goals as goal

-- an empty log has no frame
no_frames : (size frames : ℕ) → Replays size [] frames → frames ≡ 0
no_frames size frames (inl (ignored, none)) = none
no_frames size frames (inr (committed, last)) = absurd (omega (arith, committed.long))

-- the first page then begins with the first bytes of the database file, where the version stands
has_what_it_says : (left : Image) (db : Trees) (mark : ℕ) → HoldsDatabase (record left { log = [] }) db
    → SaysMark (take 100 left.db) mark ↔ HasMark mark db
unfolding part
has_what_it_says left db mark (size, allowed, held) =
    let whole = stored_size size in
    let found = held.found.found in
    let first : (1 - 1) * whole ≡ 0 = omega arith in
    let few : reserved size ≤ 8 = grind (arith, nat_tests) in
    let long : 100 ≤ size = omega (arith, allowed.0) in
    let page = some_value (held.found.stored 1) held.found.whole.first in
    let gives = subst (λ n. pages_after whole [] left.db n ≡ held.found.stored)
    (no_frames whole found.frames found.replays) found.gives in
    let front : take whole left.db ≡ page.0 =
    ap (λ (at : ℕ). part left.db at whole) (sym first)
    ∙ (page_from_pages whole [] left.db 0 1 page.0 (ap (λ (p : Pages). p 1) gives ∙ page.1)).0 in
    let head : header_in held.pages ≡ take 100 left.db =
    ap (λ (p : PageMap). take 100 (unwrap_or (p 1) [])) (sym held.found.shows)
    ∙ ap (λ (o : Option (List ℕ)). take 100 (unwrap_or o [])) (trimmed_some size _ 1 page.0 page.1)
    ∙ ap (λ (bytes : List ℕ). take 100 (take size bytes)) (sym front)
    ∙ take-take 100 size (take whole left.db) long
    ∙ take-take 100 whole left.db (omega arith) in
    let version : db version_tree ≡ version_rows (user_version (take 100 left.db)) =
    ap (λ (t : Trees). t version_tree) held.reads
    ∙ ap (λ (h : List ℕ). version_rows (user_version h)) head in (
      λ says. version ∙ ap version_rows says.version,
      λ has. record {
        magic = subst (λ (h : List ℕ). take 16 h ≡ codes "SQLite format 3" ++ 0 ∷ []) head
            held.ours.file.sound.header.0.magic;
        version = cc;
      },
    )

pub returns-clause-tied : goal.returns-clause-tied
returns-clause-tied c left db is held =
    let said = subst (λ (h : List ℕ). IsTrue c.says_end.result ↔ SaysMark h ended_mark) is
    c.says_end.ensures in
    let both = has_what_it_says left db ended_mark held in
    (λ ended. both.0 (said.0 ended), λ has. said.1 (both.1 has))
