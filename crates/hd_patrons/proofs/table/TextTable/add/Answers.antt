use Rattle.std.proofs.Common.{◌≡◌, ◌++◌, ◌<◌, ◌∙◌, ℕ, List, ap, arith, length, subst, sym}
use Rattle.hd_patrons.specs.Stored.{AreStored, Stored}
use Rattle.hd_patrons.specs.Texts.{AreProper, PatronSaid}
use Rattle.hd_patrons.specs.declared.table.Place.{Place}
use Rattle.hd_patrons.proofs.StoredLemmas.{added, place_behind, stored_more, stored_with}
use Rattle.hd_patrons.proofs.table.TextTable.add.Goals as goal

-- nothing was added
pub invariant_of-self : goal.invariant_of-self
invariant_of-self g c =
    subst (λ (t : List ℕ). AreStored (record { texts = t; places = c.self.inside.places.items }))
    (sym c.in_err-extend_from_slice.ensures.items) c.self.invariant

-- a password alone
pub invariant_of-self-in_err-extend_from_slice-2 : goal.invariant_of-self-in_err-extend_from_slice-2
invariant_of-self-in_err-extend_from_slice-2 g c =
    subst (λ (t : List ℕ). AreStored (record { texts = t; places = c.self.inside.places.items }))
    (sym (c.in_err-extend_from_slice-2.ensures.items ∙ c.in_ok-extend_from_slice.ensures.items))
    (stored_more c.self.inside.texts.items c.line.inside.password.now c.self.inside.places.items
    c.self.invariant)

pub invariant_of-self-2 : goal.invariant_of-self-2
invariant_of-self-2 g c =
    let texts : List ℕ = c.self.inside.texts.items in
    let old : Stored = record { texts = texts; places = c.self.inside.places.items } in
    let line = c.line.inside in
    let said : PatronSaid = record {
      patron = line.patron;
      texts = record { password = line.password.now; language = line.language; name = line.name.now };
    } in
    let place : Place = record {
      start = c.len.result;
      password = length line.password.now;
      name = length line.name.now;
      language = line.language;
    } in
    let start : c.len.result ≡ length texts = omega (arith, c.len.ensures, c.self.inside.texts.ok) in
    let room : line.patron < length c.self.inside.places.items =
    omega (
      arith,
      c.requires.known,
      ap (λ (s : Stored). length s.places) c.self.view_is,
      ap (λ (l : PatronSaid). l.patron) c.line.view_is,
    ) in
    let all : c.extend_from_slice-2.new.self.items ≡ (texts ++ line.password.now) ++ line.name.now =
    c.in_ok-extend_from_slice-2.ensures.items
    ∙ ap (λ (t : List ℕ). t ++ line.name.now) c.in_ok-extend_from_slice.ensures.items in
    let behind : place ≡ place_behind texts said = ap (λ (n : ℕ). record {
      start = n;
      password = length line.password.now;
      name = length line.name.now;
      language = line.language;
    }) start in
    let proper : AreProper said.texts =
    subst (λ (l : PatronSaid). AreProper l.texts) (sym c.line.view_is) c.requires.proper in
    stored_with old said c.extend_from_slice-2.new.self.items c.number.result place c.self.invariant room
    proper all c.number.ensures.value behind

pub returns-clause-added : goal.returns-clause-added
returns-clause-added g c =
    let texts : List ℕ = c.self.inside.texts.items in
    let old : Stored = record { texts = texts; places = c.self.inside.places.items } in
    let line = c.line.inside in
    let said : PatronSaid = record {
      patron = line.patron;
      texts = record { password = line.password.now; language = line.language; name = line.name.now };
    } in
    let place : Place = record {
      start = c.len.result;
      password = length line.password.now;
      name = length line.name.now;
      language = line.language;
    } in
    let start : c.len.result ≡ length texts = omega (arith, c.len.ensures, c.self.inside.texts.ok) in
    let room : line.patron < length c.self.inside.places.items =
    omega (
      arith,
      c.requires.known,
      ap (λ (s : Stored). length s.places) c.self.view_is,
      ap (λ (l : PatronSaid). l.patron) c.line.view_is,
    ) in
    let all : c.extend_from_slice-2.new.self.items ≡ (texts ++ line.password.now) ++ line.name.now =
    c.in_ok-extend_from_slice-2.ensures.items
    ∙ ap (λ (t : List ℕ). t ++ line.name.now) c.in_ok-extend_from_slice.ensures.items in
    let behind : place ≡ place_behind texts said = ap (λ (n : ℕ). record {
      start = n;
      password = length line.password.now;
      name = length line.name.now;
      language = line.language;
    }) start in
    rw (← c.self.view_is, ← c.line.view_is)
    (added old said c.extend_from_slice-2.new.self.items c.number.result place c.self.invariant room all
    c.number.ensures.value behind)
