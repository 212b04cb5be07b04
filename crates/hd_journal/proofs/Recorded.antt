-- The record of a number.
use Rattle.std.proofs.Common.{◌≡◌, ◌≢◌, refl, sym, ◌∙◌, ap, subst, ℕ, ◌==◌, Bool, true, false, cond, List, []}
use Rattle.std.proofs.Common.{◌∷◌, ◌++◌}
use Rattle.std.proofs.Common.{Option, Some, None, inl, inr}
use Rattle.std.proofs.lemmas.List.{map-append, length-map}
use Rattle.std.proofs.lemmas.Bool.{eqb-true, eqb-false}
use Rattle.hd_rules.specs.declared.commands.Survivor.{Survivor}
use Rattle.hd_rules.specs.Depends.{before}
use Rattle.hd_rules.specs.Facts.{Facts, first_number}
use Rattle.hd_rules.specs.Record.{Record, IsRecordAt}
use Rattle.hd_rules.specs.Run.{IsAmong, Rising, run}
use Rattle.hd_clash.specs.Records.{AreRecords}
use Rattle.hd_records.specs.Survivors.{record_of, survivor_of, survivors_of}
use Rattle.hd_journal.specs.Laws.{CancellationLaws}
use Rattle.hd_journal.specs.Stored.{AreStored, IsRecordOf}
use Rattle.hd_journal.proofs.Stored.{among_middle}

-- it is one of the records
pub record IsOne (n : ℕ) (rs : List Record) (r : Record) : Type 0 where
  pub older : List Record
  pub newer : List Record
  pub split : rs ≡ older ++ r ∷ newer
  pub number : r.number ≡ n

-- or no survivor has the number
abbrev pub Told : ℕ → List Record → Option Record → Type 0
Told n rs None = (s : Survivor) → IsAmong s (survivors_of rs) → s.number ≢ n
Told n rs (Some r) = IsOne n rs r

none_more : (n : ℕ) (x : Record) (xs : List Record) → (x.number == n) ≡ false → Told n xs None
    → Told n (x ∷ xs) None
none_more n x xs other rest s (inl same) named =
    eqb-false x.number n other (ap (λ (y : Survivor). y.number) (sym same) ∙ named)
none_more n x xs other rest s (inr later) named = rest s later named

more : (n : ℕ) (x : Record) (xs : List Record) (o : Option Record) → (x.number == n) ≡ false → Told n xs o
    → Told n (x ∷ xs) o
more n x xs None other rest = none_more n x xs other rest
more n x xs (Some r) other rest =
    record {
      older = x ∷ rest.older;
      newer = rest.newer;
      split = ap (λ (ys : List Record). x ∷ ys) rest.split;
      number = rest.number;
    }

pub told : (n : ℕ) (rs : List Record) → Told n rs (record_of n rs)
told n [] = λ s among named. absurd among
told n (x ∷ xs) = by_test (x.number == n) refl (told n xs)
  where
    by_test : (b : Bool) → (x.number == n) ≡ b → Told n xs (record_of n xs)
        → Told n (x ∷ xs) (cond b (Some x) (record_of n xs))
    by_test true is rest = record { older = []; newer = xs; split = refl; number = eqb-true x.number n is }
    by_test false is rest = more n x xs (record_of n xs) is rest

kept_so : (laws : CancellationLaws) (k : Facts) (rs : List Record) (n : ℕ) (o : Option Record)
    → AreStored k rs → Rising (first_number k) (survivors_of rs)
    → Told n rs o → IsRecordOf k (survivors_of rs) n o
kept_so laws k rs n None stored rising none = none
kept_so laws k rs n (Some r) stored rising one =
    let older : List Survivor = survivors_of one.older in
    let newer : List Survivor = survivors_of one.newer in
    let split : survivors_of rs ≡ older ++ survivor_of r ∷ newer =
    ap survivors_of one.split ∙ map-append survivor_of one.older (r ∷ one.newer) in
    let whole : AreRecords k k.opening.desk (older ++ survivor_of r ∷ newer) (one.older ++ r ∷ one.newer) =
    subst (λ (xs : List Record). AreRecords k k.opening.desk (older ++ survivor_of r ∷ newer) xs) one.split
    (subst (λ (ss : List Survivor). AreRecords k k.opening.desk ss rs) split stored.are) in
    let here : IsRecordAt k (run k older) (survivor_of r) r =
    ((laws.split k k.opening.desk older (survivor_of r ∷ newer) one.older (r ∷ one.newer)
    (length-map one.older survivor_of)).0 whole).1.0 in
    let first : before r.number (survivors_of rs) ≡ older =
    ap (before r.number) split ∙ (laws.target.split (first_number k) older (survivor_of r) newer
    (subst (Rising (first_number k)) split rising)).0 in (
      survivor_of r,
      subst (IsAmong (survivor_of r)) (sym split) (among_middle older (survivor_of r) newer),
      one.number,
      subst (λ (ss : List Survivor). IsRecordAt k (run k ss) (survivor_of r) r) (sym first) here,
    )

pub record_is : (laws : CancellationLaws) (k : Facts) (rs : List Record) (n : ℕ) → AreStored k rs
    → Rising (first_number k) (survivors_of rs)
    → IsRecordOf k (survivors_of rs) n (record_of n rs)
record_is laws k rs n stored rising = kept_so laws k rs n (record_of n rs) stored rising (told n rs)
