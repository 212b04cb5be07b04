-- The front of a list is the first of those that pass.
use Rattle.std.proofs.Common.{◌≡◌, ℕ, ◌<◌, ◌≤◌, Bool, true, false, cond, ◌==◌, ◌&&◌, is_none, None, Some}
use Rattle.std.proofs.Common.{Option, List, [], ◌∷◌, find, filter, refl}
use Rattle.std.proofs.Common.{sym, ap, ◌∙◌, inl, inr, arith}
use Rattle.std.specs.Option.{option_or}
use Rattle.std.proofs.lemmas.Bool.Decides.{Decides-eqb}
use Rattle.std.proofs.lemmas.Bool.{and_from, and_parts, cases_Bool, le-ltb}
use Rattle.std.proofs.lemmas.Option.{same_Some}
use Rattle.hd_rules.specs.declared.holds.Hold.{Hold}
use Rattle.hd_rules.specs.Choose.{is_local, precedes}
use Rattle.hd_queue.specs.Holds.{hold_of, AllAfter, IsInOrder, HasPatronsOnce}
use Rattle.hd_queue.specs.Waiting.{is_at_branch, waits_at}
use Rattle.hd_queue.specs.Wanted.{is_picked_up_at}
use Rattle.hd_allocate.specs.Choosing.{is_open, is_open_at, front}

-- no hold of the list passes
pub record NonePass (test : Hold → Bool) (holds : List Hold) : Type 0 where
  pub fails : (p : ℕ) (g : Hold) → hold_of holds p ≡ Some g → test g ≡ false

-- the hold passes, and no other that does precedes it
pub record Leads (priority : Bool) (b : ℕ) (test : Hold → Bool) (holds : List Hold) (h : Hold) : Type 0 where
  pub queued : hold_of holds h.patron ≡ Some h
  pub passes : test h ≡ true
  pub first : (p : ℕ) (g : Hold) → hold_of holds p ≡ Some g → test g ≡ true → precedes priority b g h ≡ false

abbrev pub IsFirst : Bool → ℕ → (Hold → Bool) → List Hold → Option Hold → Type 0
IsFirst priority b test holds None = NonePass test holds
IsFirst priority b test holds (Some h) = Leads priority b test holds h

-- the hold passes, and none of smaller stamp does
record IsLeast (test : Hold → Bool) (holds : List Hold) (h : Hold) : Type 0 where
  pub queued : hold_of holds h.patron ≡ Some h
  pub passes : test h ≡ true
  pub least : (p : ℕ) (g : Hold) → hold_of holds p ≡ Some g → test g ≡ true → h.stamp ≤ g.stamp

-- a hold that is found for a patron is the head of the list, or is found behind it
here : (x : Hold) (hs : List Hold) (p : ℕ) (g : Hold) → hold_of (x ∷ hs) p ≡ Some g → (x.patron == p) ≡ true
    → x ≡ g
here x hs p g is e = same_Some x g (sym (rw e) ∙ is)

behind : (x : Hold) (hs : List Hold) (p : ℕ) (g : Hold) → hold_of (x ∷ hs) p ≡ Some g → (x.patron == p)
    ≡ false → hold_of hs p ≡ Some g
behind x hs p g is e = sym (rw e) ∙ is

after-hold_of : (s : ℕ) (hs : List Hold) (p : ℕ) (g : Hold) → AllAfter s hs → hold_of hs p ≡ Some g
    → s < g.stamp
after-hold_of s [] p g a is = let none : ◌≡◌ {A = Option Hold} None (Some g) = is in cc
after-hold_of s (x ∷ hs) p g a is = elim (cases_Bool (x.patron == p)) [
  | inl e ↦ rw (← here x hs p g is e) a.0
  | inr e ↦ after-hold_of s hs p g a.1 (behind x hs p g is e)
]

pub patron-hold_of : (hs : List Hold) (p : ℕ) (g : Hold) → hold_of hs p ≡ Some g → g.patron ≡ p
patron-hold_of [] p g is = let none : ◌≡◌ {A = Option Hold} None (Some g) = is in cc
patron-hold_of (x ∷ hs) p g is = elim (cases_Bool (x.patron == p)) [
  | inl e ↦ rw (← here x hs p g is e) ((Decides-eqb x.patron p).0 e)
  | inr e ↦ patron-hold_of hs p g (behind x hs p g is e)
]

stamp_of : (x g : Hold) → x ≡ g → x.stamp ≡ g.stamp
stamp_of x g e = ap (λ (y : Hold). y.stamp) e

-- two holds of one stamp are one
pub stamps_apart : (hs : List Hold) (p q : ℕ) (g h : Hold) → IsInOrder hs → hold_of hs p ≡ Some g
    → hold_of hs q ≡ Some h →
    g.stamp ≡ h.stamp → g ≡ h
stamps_apart [] p q g h o is was same = let none : ◌≡◌ {A = Option Hold} None (Some g) = is in cc
stamps_apart (x ∷ hs) p q g h o is was same = elim (cases_Bool (x.patron == p)) [
  | inl e ↦ elim (cases_Bool (x.patron == q)) [
    | inl f ↦ sym (here x hs p g is e) ∙ here x hs q h was f
    | inr f ↦ absurd (omega
        (arith, stamp_of x g (here x hs p g is e), after-hold_of x.stamp hs q h o.0 (behind x hs q h was f)))
  ]
  | inr e ↦ elim (cases_Bool (x.patron == q)) [
    | inl f ↦ absurd (omega
        (arith, stamp_of x h (here x hs q h was f), after-hold_of x.stamp hs p g o.0 (behind x hs p g is e)))
    | inr f ↦ stamps_apart hs p q g h o.1 (behind x hs p g is e) (behind x hs q h was f) same
  ]
]

-- the first that passes, of those that pass another test
pub find-filter : (p q : Hold → Bool) (hs : List Hold) → find q (filter p hs) ≡ find (λ h. p h && q h) hs
find-filter p q [] = refl
find-filter p q (h ∷ hs) = elim (cases_Bool (p h)) [
  | inl e ↦ rw e (ap (cond (q h) (Some h)) (find-filter p q hs))
  | inr e ↦ rw e (find-filter p q hs)
]

find-none : (test : Hold → Bool) (hs : List Hold) → find test hs ≡ None → (p : ℕ) (g : Hold) → hold_of hs p
    ≡ Some g → test g ≡ false
find-none test [] none p g is = let both : ◌≡◌ {A = Option Hold} None (Some g) = is in cc
find-none test (x ∷ hs) none p g is = elim (cases_Bool (test x)) [
  | inl e ↦ absurd (let some : ◌≡◌ {A = Option Hold} (Some x) None = sym (rw e) ∙ none in cc)
  | inr e ↦ elim (cases_Bool (x.patron == p)) [
    | inl f ↦ rw (← here x hs p g is f) e
    | inr f ↦ find-none test hs (sym (rw e) ∙ none) p g (behind x hs p g is f)
  ]
]

head_least : (x : Hold) (hs : List Hold) (p : ℕ) (g : Hold) → AllAfter x.stamp hs → hold_of (x ∷ hs) p
    ≡ Some g → x.stamp ≤ g.stamp
head_least x hs p g a m = elim (cases_Bool (x.patron == p)) [
  | inl f ↦ omega (arith, stamp_of x g (here x hs p g m f))
  | inr f ↦ omega (arith, after-hold_of x.stamp hs p g a (behind x hs p g m f))
]

head_passes : (test : Hold → Bool) (x : Hold) (hs : List Hold) (h : Hold) → AllAfter x.stamp hs → test x
    ≡ true → x ≡ h →
    IsLeast test (x ∷ hs) h
head_passes test x hs h a e same = rw (← same) record {
  queued = rw ((Decides-eqb x.patron x.patron).1 refl);
  passes = e;
  least = λ p g m t. head_least x hs p g a m;
}

still_queued : (x : Hold) (hs : List Hold) (h : Hold) → hold_of hs x.patron ≡ None → hold_of hs h.patron
    ≡ Some h →
    hold_of (x ∷ hs) h.patron ≡ Some h
still_queued x hs h none some = elim (cases_Bool (x.patron == h.patron)) [
  | inl f ↦ absurd (let both : ◌≡◌ {A = Option Hold} None (Some h) = sym none
      ∙ ap (hold_of hs) ((Decides-eqb x.patron h.patron).0 f)
      ∙ some in cc)
  | inr f ↦ rw f some
]

still_least : (test : Hold → Bool) (x : Hold) (hs : List Hold) (h : Hold) → IsLeast test hs h → test x ≡ false
    → (p : ℕ) (g : Hold) →
    hold_of (x ∷ hs) p ≡ Some g → test g ≡ true → h.stamp ≤ g.stamp
still_least test x hs h l e p g m t = elim (cases_Bool (x.patron == p)) [
  | inl f ↦ absurd (let both : ◌≡◌ {A = Bool} true false = sym t ∙ sym (ap test (here x hs p g m f))
      ∙ e in cc)
  | inr f ↦ l.least p g (behind x hs p g m f) t
]

find-least : (test : Hold → Bool) (hs : List Hold) (h : Hold) → IsInOrder hs → HasPatronsOnce hs
    → find test hs ≡ Some h → IsLeast test hs h
find-least test [] h o once is = let none : ◌≡◌ {A = Option Hold} None (Some h) = is in cc
find-least test (x ∷ hs) h o once is = elim (cases_Bool (test x)) [
  | inl e ↦ head_passes test x hs h o.0 e (same_Some x h (sym (rw e) ∙ is))
  | inr e ↦
      let l : IsLeast test hs h = find-least test hs h o.1 once.1 (sym (rw e) ∙ is) in
      record {
        queued = still_queued x hs h once.0 l.queued;
        passes = l.passes;
        least =
            still_least test x hs h l e;
      }
]

-- of two holds that are both picked up at the branch, or neither, the later one doesn't precede
pub same_side : (priority : Bool) (b : ℕ) (g h : Hold) (t : Bool) → is_local priority b g ≡ t
    → is_local priority b h ≡ t →
    h.stamp ≤ g.stamp → precedes priority b g h ≡ false
same_side priority b g h true e f le = rw (e, f) (le-ltb g.stamp h.stamp le)
same_side priority b g h false e f le = rw (e, f) (le-ltb g.stamp h.stamp le)

other_side : (priority : Bool) (b : ℕ) (g h : Hold) → is_local priority b g ≡ false → is_local priority b h
    ≡ true →
    precedes priority b g h ≡ false
other_side priority b g h e f = rw (e, f) refl

-- what is open among those of a list
abbrev pub opens : (Hold → Bool) → ℕ → Hold → Bool
opens wanted day g = wanted g && is_open day g

abbrev local_opens : (Hold → Bool) → ℕ → ℕ → Hold → Bool
local_opens wanted b day g = wanted g && is_open_at b day g

opens_there : (wanted : Hold → Bool) (b day : ℕ) (g : Hold) → local_opens wanted b day g ≡ true →
    ((g.pickup == b) ≡ true) × (opens wanted day g ≡ true)
opens_there wanted b day g t =
    let both : (wanted g ≡ true) × (is_open_at b day g ≡ true) =
    and_parts (wanted g) (is_open_at b day g) t in
    let at : ((g.pickup == b) ≡ true) × (is_open day g ≡ true) =
    and_parts (g.pickup == b) (is_open day g) both.1 in
    (at.0, and_from (wanted g) (is_open day g) both.0 at.1)

opens_here : (wanted : Hold → Bool) (b day : ℕ) (g : Hold) → opens wanted day g ≡ true → (g.pickup == b)
    ≡ true →
    local_opens wanted b day g ≡ true
opens_here wanted b day g t at =
    let both : (wanted g ≡ true) × (is_open day g ≡ true) = and_parts (wanted g) (is_open day g) t in
    and_from (wanted g) (is_open_at b day g) both.0 (and_from (g.pickup == b) (is_open day g) at both.1)

-- where no pickup is preferred
plain : (wanted : Hold → Bool) (b day : ℕ) (hs : List Hold) (o : Option Hold) → IsInOrder hs
    → HasPatronsOnce hs →
    find (opens wanted day) hs ≡ o → IsFirst false b (opens wanted day) hs o
plain wanted b day hs None ordered once none = record { fails = find-none (opens wanted day) hs none }
plain wanted b day hs (Some h) ordered once some =
    let l : IsLeast (opens wanted day) hs h = find-least (opens wanted day) hs h ordered once some in
    record {
      queued = l.queued;
      passes = l.passes;
      first =
          λ p g m t. same_side false b g h false refl refl (l.least p g m t);
    }

-- where pickups at the branch come first, and there is one
preferred : (wanted : Hold → Bool) (b day : ℕ) (hs : List Hold) (h : Hold) → IsInOrder hs
    → HasPatronsOnce hs →
    find (local_opens wanted b day) hs ≡ Some h → Leads true b (opens wanted day) hs h
preferred wanted b day hs h ordered once some =
    let l : IsLeast (local_opens wanted b day) hs h =
    find-least (local_opens wanted b day) hs h ordered once some in
    let its : ((h.pickup == b) ≡ true) × (opens wanted day h ≡ true) = opens_there wanted b day h l.passes in
    record {
      queued = l.queued;
      passes = its.1;
      first = λ p g m t. elim (cases_Bool (g.pickup == b)) [
        | inl e ↦ same_side true b g h true e its.0 (l.least p g m (opens_here wanted b day g t e))
        | inr e ↦ other_side true b g h e its.0
      ];
    }

nowhere_local : (wanted : Hold → Bool) (b day : ℕ) (hs : List Hold) (p : ℕ) (g : Hold)
    → find (local_opens wanted b day) hs ≡ None →
    hold_of hs p ≡ Some g → opens wanted day g ≡ true → (g.pickup == b) ≡ false
nowhere_local wanted b day hs p g none m t = elim (cases_Bool (g.pickup == b)) [
  | inl e ↦ absurd (let both : ◌≡◌ {A = Bool} true false = sym (opens_here wanted b day g t e)
      ∙ find-none (local_opens wanted b day) hs none p g m in cc)
  | inr e ↦ e
]

-- and there is none
unpreferred : (wanted : Hold → Bool) (b day : ℕ) (hs : List Hold) (o : Option Hold) → IsInOrder hs
    → HasPatronsOnce hs →
    find (local_opens wanted b day) hs ≡ None → find (opens wanted day) hs ≡ o
    → IsFirst true b (opens wanted day) hs o
unpreferred wanted b day hs None ordered once nobody none =
    record { fails = find-none (opens wanted day) hs none }
unpreferred wanted b day hs (Some h) ordered once nobody some =
    let l : IsLeast (opens wanted day) hs h = find-least (opens wanted day) hs h ordered once some in
    let away : (h.pickup == b) ≡ false = nowhere_local wanted b day hs h.patron h nobody l.queued l.passes in
    record {
      queued = l.queued;
      passes = l.passes;
      first = λ p g m t. same_side true b g h false (nowhere_local wanted b day hs p g nobody m t) away
          (l.least p g m t);
    }

either : (wanted : Hold → Bool) (b day : ℕ) (hs : List Hold) (x y : Option Hold) → IsInOrder hs
    → HasPatronsOnce hs →
    find (local_opens wanted b day) hs ≡ x → find (opens wanted day) hs ≡ y
    → IsFirst true b (opens wanted day) hs (option_or x y)
either wanted b day hs None y ordered once nobody is = unpreferred wanted b day hs y ordered once nobody is
either wanted b day hs (Some h) y ordered once some is = preferred wanted b day hs h ordered once some

-- the front of the holds of a kind is the first of those that are open
pub front_is_first : (priority : Bool) (b day : ℕ) (wanted : Hold → Bool) (hs : List Hold) → IsInOrder hs
    → HasPatronsOnce hs →
    IsFirst priority b (opens wanted day) hs (front priority b day (filter wanted hs))
front_is_first false b day wanted hs ordered once =
    plain wanted b day hs (find (is_open day) (filter wanted hs)) ordered once
    (sym (find-filter wanted (is_open day) hs))
front_is_first true b day wanted hs ordered once =
    either wanted b day hs (find (is_open_at b day) (filter wanted hs))
    (find (is_open day) (filter wanted hs)) ordered once
    (sym (find-filter wanted (is_open_at b day) hs)) (sym (find-filter wanted (is_open day) hs))

-- of the holds that are picked up at the branch, the first that is open is the first that is open there
find-local : (b day : ℕ) (hs : List Hold) → find (is_open day) (filter (is_picked_up_at b) hs)
    ≡ find (is_open_at b day) hs
find-local b day hs = find-filter (is_picked_up_at b) (is_open day) hs

-- the front, where those that are picked up at the branch are a list of their own
pub front_of_two : (priority : Bool) (b day : ℕ) (local all : List Hold) → local
    ≡ filter (is_picked_up_at b) all →
    option_or (cond priority (find (is_open day) local) None) (find (is_open day) all)
    ≡ front priority b day all
front_of_two false b day local all is = refl
front_of_two true b day local all is =
    ap (λ (o : Option Hold). option_or o (find (is_open day) all))
    (ap (find (is_open day)) is ∙ find-local b day all)

find-same : (s t : Hold → Bool) → ((h : Hold) → s h ≡ t h) → (hs : List Hold) → find s hs ≡ find t hs
find-same s t same [] = refl
find-same s t same (h ∷ hs) = rw (same h, find-same s t same hs) refl

find-nothing : (hs : List Hold) → find (λ h. false) hs ≡ None
find-nothing [] = refl
find-nothing (h ∷ hs) = find-nothing hs

or_same : (o : Option Hold) → option_or o o ≡ o
or_same None = refl
or_same (Some h) = refl

once_more : (x y z o : Bool) → ((x && (y && z)) && (z && o)) ≡ ((x && (y && z)) && o)
once_more true true true o = refl
once_more true true false o = refl
once_more true false z o = refl
once_more false y z o = refl

not_away : (x y o : Bool) (p b home : ℕ) → (home == b) ≡ false
    → ((x && (y && (p == home))) && ((p == b) && o)) ≡ false
not_away true true o p b home away = elim (cases_Bool (p == home)) [
  | inl e ↦ rw (e, (Decides-eqb p home).0 e, away) refl
  | inr e ↦ rw e refl
]
not_away true false o p b home away = refl
not_away false y o p b home away = refl

-- those that wait for a copy of the branch are picked up there
at_home : (home day : ℕ) (hs : List Hold) →
    find (is_open_at home day) (filter (waits_at home) hs) ≡ find (is_open day) (filter (waits_at home) hs)
at_home home day hs =
    find-filter (waits_at home) (is_open_at home day) hs
    ∙ find-same (λ h. waits_at home h && is_open_at home day h) (λ h. waits_at home h && is_open day h)
    (λ h. once_more (is_none h.copy) (is_at_branch h.kind) (h.pickup == home) (is_open day h)) hs
    ∙ sym (find-filter (waits_at home) (is_open day) hs)

-- and nowhere else
away_from_home : (b home day : ℕ) (hs : List Hold) → (home == b) ≡ false
    → find (is_open_at b day) (filter (waits_at home) hs) ≡ None
away_from_home b home day hs away =
    find-filter (waits_at home) (is_open_at b day) hs
    ∙ find-same (λ h. waits_at home h && is_open_at b day h) (λ h. false)
    (λ h. not_away (is_none h.copy) (is_at_branch h.kind) (is_open day h) h.pickup b home away) hs
    ∙ find-nothing hs

-- of those that wait for a copy of a branch the first that is open is the front, wherever the copy lies
pub front_of_home : (priority : Bool) (b home day : ℕ) (hs ks : List Hold) → ks ≡ filter (waits_at home) hs →
    find (is_open day) ks ≡ front priority b day ks
front_of_home false b home day hs ks is = refl
front_of_home true b home day hs ks is = rw is (elim (cases_Bool (home == b)) [
  | inl e ↦ rw (← (Decides-eqb home b).0 e)
      (sym (ap (λ (o : Option Hold). option_or o (find (is_open day) (filter (waits_at home) hs)))
      (at_home home day hs) ∙ or_same (find (is_open day) (filter (waits_at home) hs))))
  | inr e ↦ sym (ap (λ (o : Option Hold). option_or o (find (is_open day) (filter (waits_at home) hs)))
      (away_from_home b home day hs e))
])
