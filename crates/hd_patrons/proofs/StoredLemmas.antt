-- What is kept of a patron stays when another's texts are added.
use Rattle.std.proofs.Common.{◌≡◌, refl, sym, ◌∙◌, ap, subst, ℕ, ◌+◌, ◌-◌, ◌<◌, ◌≤◌, ◌==◌, Bool, true, false}
use Rattle.std.proofs.Common.{cond, Option, Some, None}
use Rattle.std.proofs.Common.{List, ◌++◌, length, take, drop, set, slice_index_or, option_map, append_assoc}
use Rattle.std.proofs.Common.{length-append, arith, eqb-true, eq-eqb}
use Rattle.std.proofs.lemmas.List.{drop-append-le, take-append-le, drop_at, take_at, take_all, length-drop}
use Rattle.std.proofs.lemmas.List.{get_or-set_same, get_or-set_other}
use Rattle.hd_patrons.specs.Texts.{AreProper, PatronSaid, PatronTexts, said_before}
use Rattle.hd_patrons.specs.Stored.{AreStored, AreWithin, Stored, part_at, place_of, texts_at, texts_of}
use Rattle.hd_patrons.specs.declared.table.Place.{Place}

-- a part stays where more is added behind
part_more : (texts more : List ℕ) (start count : ℕ) → start + count ≤ length texts
    → part_at (texts ++ more) start count ≡ part_at texts start count
part_more texts more start count l =
    ap (take count) (drop-append-le start texts more (omega (arith, l)))
    ∙ take-append-le count (drop start texts) more (omega (arith, l, length-drop start texts))

pub texts_more : (texts more : List ℕ) (place : Place)
    → place.start + place.password + place.name ≤ length texts
    → texts_at (texts ++ more) place ≡ texts_at texts place
texts_more texts more place l =
    let one : part_at (texts ++ more) place.start place.password ≡ part_at texts place.start place.password =
    part_more texts more place.start place.password (omega (arith, l)) in
    let two : part_at (texts ++ more) (place.start + place.password) place.name
    ≡ part_at texts (place.start + place.password) place.name =
    part_more texts more (place.start + place.password) place.name (omega (arith, l)) in
    rw (one, two) refl

-- the place of texts that are added
abbrev pub place_behind : List ℕ → PatronSaid → Place
place_behind texts said =
    record {
      start = length texts;
      password = length said.texts.password;
      name = length said.texts.name;
      language = said.texts.language;
    }

-- the store with what a line says
abbrev pub with_said : Stored → PatronSaid → Stored
with_said old said =
    record {
      texts = (old.texts ++ said.texts.password) ++ said.texts.name;
      places = set old.places said.patron (Some (place_behind old.texts said));
    }

texts_behind : (texts : List ℕ) (said : PatronSaid)
    → texts_at ((texts ++ said.texts.password) ++ said.texts.name) (place_behind texts said) ≡ said.texts
texts_behind texts said =
    let password : List ℕ = said.texts.password in
    let name : List ℕ = said.texts.name in
    let one : part_at ((texts ++ password) ++ name) (length texts) (length password) ≡ password =
    ap (take (length password)) (ap (drop (length texts)) (append_assoc texts password name)
    ∙ drop_at texts (password ++ name) (length texts) refl)
    ∙ take_at password name (length password) refl in
    let two : part_at ((texts ++ password) ++ name) (length texts + length password) (length name) ≡ name =
    ap (take (length name))
    (drop_at (texts ++ password) name (length texts + length password) (length-append texts password))
    ∙ take_all (length name) name (omega arith) in
    rw (one, two) refl

module _ (old : Stored) (said : PatronSaid) (within : AreWithin old)
    (room : said.patron < length old.places) where
  abbrev new : Stored
  new = with_said old said

  new_place : place_of new said.patron ≡ Some (place_behind old.texts said)
  new_place = get_or-set_same old.places said.patron (Some (place_behind old.texts said)) None room

  other_place : (p : ℕ) → (said.patron == p) ≡ false → place_of new p ≡ place_of old p
  other_place p apart =
      get_or-set_other old.places said.patron p (Some (place_behind old.texts said)) None
      (λ same. (let is : (said.patron == p) ≡ true = eq-eqb said.patron p (sym same) in cc))

  texts_stay : (p : ℕ) (o : Option Place) → place_of old p ≡ o
      → option_map (texts_at new.texts) o ≡ option_map (texts_at old.texts) o
  texts_stay p None is = refl
  texts_stay p (Some place) is =
      ap (λ (t : PatronTexts). Some t)
      (ap (λ (ts : List ℕ). texts_at ts place) (append_assoc old.texts said.texts.password said.texts.name)
      ∙ texts_more old.texts (said.texts.password ++ said.texts.name) place (within p place is))

  pub texts_with : (p : ℕ) → texts_of new p ≡ said_before said p (texts_of old p)
  texts_with p = by_patron (said.patron == p) refl
    where
      by_patron : (b : Bool) → (said.patron == p) ≡ b
          → texts_of new p ≡ cond b (Some said.texts) (texts_of old p)
      by_patron true is =
          subst (λ (q : ℕ). texts_of new q ≡ Some said.texts) (eqb-true said.patron p is)
          (ap (option_map (texts_at new.texts)) new_place
          ∙ ap (λ (t : PatronTexts). Some t) (texts_behind old.texts said))
      by_patron false apart =
          ap (option_map (texts_at new.texts)) (other_place p apart) ∙ texts_stay p (place_of old p) refl

  long : length new.texts ≡ length old.texts + length said.texts.password + length said.texts.name
  long = length-append (old.texts ++ said.texts.password) said.texts.name
      ∙ ap (λ n. n + length said.texts.name) (length-append old.texts said.texts.password)

  pub within_with : AreWithin new
  within_with p place is = by_patron (said.patron == p) refl
    where
      by_patron : (b : Bool) → (said.patron == p) ≡ b
          → place.start + place.password + place.name ≤ length new.texts
      by_patron true same =
          let this : Some (place_behind old.texts said) ≡ Some place =
          sym new_place
          ∙ subst (λ (q : ℕ). place_of new q ≡ Some place) (sym (eqb-true said.patron p same)) is in
          let place_is : place_behind old.texts said ≡ place = cc in
          subst (λ (q : Place). q.start + q.password + q.name ≤ length new.texts) place_is
          (omega (arith, long))
      by_patron false apart = omega (arith, long, within p place (sym (other_place p apart) ∙ is))

-- the same, part by part
pub added : (old : Stored) (said : PatronSaid) (texts : List ℕ) (at : ℕ) (place : Place) → AreStored old
    → said.patron < length old.places → texts ≡ (old.texts ++ said.texts.password) ++ said.texts.name
    → at ≡ said.patron → place ≡ place_behind old.texts said → (p : ℕ)
    → texts_of (record { texts = texts; places = set old.places at (Some place) }) p
    ≡ said_before said p (texts_of old p)
added old said texts at place stored room all here behind p =
    ap (λ (t : List ℕ). texts_of (record { texts = t; places = set old.places at (Some place) }) p) all
    ∙ ap (λ (n : ℕ). texts_of (record {
      texts = (old.texts ++ said.texts.password) ++ said.texts.name;
      places = set old.places n (Some place);
    }) p) here
    ∙ ap (λ (q : Place). texts_of (record {
      texts = (old.texts ++ said.texts.password) ++ said.texts.name;
      places = set old.places said.patron (Some q);
    }) p) behind
    ∙ texts_with old said stored.0 room p

-- texts alone, as where memory is wanting for those that follow
pub within_more : (texts more : List ℕ) (places : List (Option Place))
    → AreWithin (record { texts = texts; places = places })
    → AreWithin (record { texts = texts ++ more; places = places })
within_more texts more places within p place is = omega (arith, within p place is, length-append texts more)

-- each text is such as a line may have, with one more line
pub proper_with : (old : Stored) (said : PatronSaid) (new : Stored) → AreStored old → AreProper said.texts
    → ((p : ℕ) → texts_of new p ≡ said_before said p (texts_of old p)) → (p : ℕ) (texts : PatronTexts)
    → texts_of new p ≡ Some texts → AreProper texts
proper_with old said new stored proper added p texts is = by_patron (said.patron == p) (sym (added p) ∙ is)
  where
    by_patron : (b : Bool) → cond b (Some said.texts) (texts_of old p) ≡ Some texts → AreProper texts
    by_patron true is = (let same : said.texts ≡ texts = cc in subst AreProper same proper)
    by_patron false is = stored.1 p texts is

-- what stands in store, with one more line
pub stored_with : (old : Stored) (said : PatronSaid) (texts : List ℕ) (at : ℕ) (place : Place)
    → AreStored old → said.patron < length old.places → AreProper said.texts
    → texts ≡ (old.texts ++ said.texts.password) ++ said.texts.name
    → at ≡ said.patron → place ≡ place_behind old.texts said
    → AreStored (record { texts = texts; places = set old.places at (Some place) })
stored_with old said texts at place stored room proper all here behind =
    subst (λ (t : List ℕ). AreStored (record { texts = t; places = set old.places at (Some place) }))
    (sym all)
    (subst (λ (n : ℕ). AreStored (record {
      texts = (old.texts ++ said.texts.password) ++ said.texts.name;
      places = set old.places n (Some place);
    })) (sym here)
    (subst (λ (q : Place). AreStored (record {
      texts = (old.texts ++ said.texts.password) ++ said.texts.name;
      places = set old.places said.patron (Some q);
    }))
    (sym behind) (
      within_with old said stored.0 room,
      proper_with old said (with_said old said) stored proper (texts_with old said stored.0 room),
    )))

-- texts alone, where memory was wanting for what follows
pub stored_more : (texts more : List ℕ) (places : List (Option Place))
    → AreStored (record { texts = texts; places = places })
    → AreStored (record { texts = texts ++ more; places = places })
stored_more texts more places stored = (
  within_more texts more places stored.0,
  λ p t is. stored.1 p t (sym (same p (slice_index_or places p None) refl) ∙ is),
)
  where
    same : (p : ℕ) (o : Option Place) → slice_index_or places p None ≡ o
        → option_map (texts_at (texts ++ more)) o ≡ option_map (texts_at texts) o
    same p None is = refl
    same p (Some place) is =
        ap (λ (t : PatronTexts). Some t) (texts_more texts more place (stored.0 p place is))

-- the texts at a patron's place are proper
pub proper_at : (stored : Stored) (p : ℕ) (place : Place) → AreStored stored → place_of stored p ≡ Some place
    → AreProper (texts_at stored.texts place)
proper_at stored p place are is =
    are.1 p (texts_at stored.texts place) (ap (option_map (texts_at stored.texts)) is)

-- a part that is lent, by the bounds of its slice
pub part_lent : (texts lent : List ℕ) (start a b skip count : ℕ) → lent ≡ texts → a ≡ skip → b ≡ count
    → take (start + a + b - (start + a)) (drop (start + a) lent) ≡ part_at texts (start + skip) count
part_lent texts lent start a b skip count same from many =
    let length_is : start + a + b - (start + a) ≡ count = omega (arith, many) in
    let start_is : start + a ≡ start + skip = omega (arith, from) in
    ap (λ (t : List ℕ). take (start + a + b - (start + a)) (drop (start + a) t)) same
    ∙ ap (λ (n : ℕ). take n (drop (start + a) texts)) length_is
    ∙ ap (λ (n : ℕ). take count (drop n texts)) start_is
