-- What is said to a patron message is spelled in one way.
use Rattle.std.proofs.Common.{◌≡◌, ℕ, ◌-◌, Bool, true, false, List, [], ◌∷◌, ◌++◌, Option, Some, None, Result}
use Rattle.std.proofs.Common.{Ok, Err}
use Rattle.std.proofs.Common.{arith, refl, sym, subst, ap, ◌∙◌, length, map, take, suc, nat_lt, if◌then◌else◌, codes}
use Rattle.std.proofs.lemmas.Option.{same_Some}
use Rattle.std.specs.Borrow.{Bor}
use Rattle.std.specs.List.{concat, flat_map}
use Rattle.std.specs.Prelude.{⊤}
use Rattle.std.specs.Option.{option_copied, unwrap_or}
use Rattle.hd_message.specs.Fields.{field_text, refusal_field}
use Rattle.hd_message.specs.PatronReplies.{card_layout, fitting, information_layout, information_text}
use Rattle.hd_message.specs.PatronReplies.{item_field, items_text}
use Rattle.hd_message.specs.PatronReplies.{known_layout, list_given, list_text}
use Rattle.hd_message.specs.PatronReplies.{patron_status_layout}
use Rattle.hd_message.specs.PatronReplies.{patron_text, payment_layout, renew_all_layout, session_end_layout}
use Rattle.hd_message.specs.PatronReplies.{with_list}
use Rattle.hd_message.specs.declared.patron_kind.PatronKind.{PatronKind}
use Rattle.hd_message.specs.declared.patron_kind.PatronKind.TheVariants as Kinds
use Rattle.hd_message.specs.declared.patron_reply.CardReply.{CardReply}
use Rattle.hd_message.specs.declared.patron_reply.Counts.{Counts}
use Rattle.hd_message.specs.declared.patron_reply.ItemList.{ItemList}
use Rattle.hd_message.specs.declared.patron_reply.KnownPatron.{KnownPatron}
use Rattle.hd_message.specs.declared.patron_reply.PasswordValidity.{PasswordValidity}
use Rattle.hd_message.specs.declared.patron_reply.PasswordValidity.TheVariants.{Wrong}
use Rattle.hd_message.specs.declared.patron_reply.PatronInformationOutcome.{PatronInformationOutcome}
use Rattle.hd_message.specs.declared.patron_reply.PatronInformationOutcome.TheVariants as OfInformation
use Rattle.hd_message.specs.declared.patron_reply.PatronInformationReply.{PatronInformationReply}
use Rattle.hd_message.specs.declared.patron_reply.PatronReply.{PatronReply}
use Rattle.hd_message.specs.declared.patron_reply.PatronReply.TheVariants.{Status, Information, SessionEnd}
use Rattle.hd_message.specs.declared.patron_reply.PatronReply.TheVariants.{FeePaid, RenewAll}
use Rattle.hd_message.specs.declared.patron_reply.PatronStatusOutcome.{PatronStatusOutcome}
use Rattle.hd_message.specs.declared.patron_reply.PatronStatusOutcome.TheVariants as OfStatus
use Rattle.hd_message.specs.declared.patron_reply.PatronStatusReply.{PatronStatusReply}
use Rattle.hd_message.specs.declared.patron_reply.RenewAllOutcome.{RenewAllOutcome}
use Rattle.hd_message.specs.declared.patron_reply.RenewAllOutcome.TheVariants as OfRenewAll
use Rattle.hd_message.specs.declared.patron_reply.RenewAllReply.{RenewAllReply}
use Rattle.hd_patrons.specs.Stored.{Stored}
use Rattle.hd_rules.specs.Desk.{Desk}
use Rattle.hd_rules.specs.Journal.{state_after}
use Rattle.hd_rules.specs.declared.replies.Refusal.{Refusal}
use Rattle.hd_rules.specs.declared.views.ListItem.{ListItem}
use Rattle.hd_rules.specs.declared.views.PatronView.{PatronView}
use Rattle.hd_rules.specs.declared.views.Summary.{Summary}
use Rattle.hd_rules.specs.declared.views.Summary.TheVariants as Lists
use Rattle.hd_rules.specs.declared.views.Wanted.{Wanted}
use Rattle.hd_catalogue.specs.Contents.{Contents, facts_of}
use Rattle.hd_exchange.specs.Cards.{IsCardReply, IsRenewAllReply}
use Rattle.hd_exchange.specs.Deeds.{Deed, Looked}
use Rattle.hd_exchange.specs.Extensions.{Extensions}
use Rattle.hd_exchange.specs.PatronInformation.{IsInformationReply, IsKnownInformation, IsListOfItems}
use Rattle.hd_exchange.specs.PatronInformation.{item_name, items_seen, list_asked, look_allowed}
use Rattle.hd_exchange.specs.PatronInformation.{question_allowed, view_seen}
use Rattle.hd_exchange.specs.PatronReplies.{AreMistaken, IsLookReply, IsPatronReply, IsRefusedPatron}
use Rattle.hd_exchange.specs.PatronReplies.{IsReplyAt, IsReplyOfLook}
use Rattle.hd_exchange.specs.PatronStatus.{IsKnownStatus, IsNotBlocked, IsStatusReply}
use Rattle.hd_exchange.specs.ToldPatrons.{IsToldOf, language_told, name_told, password_told}
use Rattle.hd_exchange.specs.declared.patron_message.PatronAsk.{PatronAsk}
use Rattle.hd_exchange.specs.declared.patron_message.PatronAsk.TheVariants as ask
use Rattle.hd_exchange.specs.declared.patron_message.PatronLook.{PatronLook}
use Rattle.hd_exchange.specs.declared.patron_message.PatronQuestion.{PatronQuestion}
use Rattle.hd_exchange.specs.declared.patron_message.PatronQuestion.TheVariants as about
use Rattle.hd_exchange.specs.declared.patron_message.PatronValues.{PatronValues}

-- The text of a list, by the names alone.

abbrev names_only : List (Bor (List ℕ)) → List (Option (List ℕ))
names_only names = map (λ (name : Bor (List ℕ)). Some name.now) names

first_of : List (Option (List ℕ)) → Option (List ℕ)
first_of [] = None
first_of (name ∷ names) = name

rest_of : List (Option (List ℕ)) → List (Option (List ℕ))
rest_of [] = []
rest_of (name ∷ names) = names

cut_text : (code : List ℕ) (over : Bool) (n : ℕ) (name : Bor (List ℕ)) (names : List (Bor (List ℕ)))
    → flat_map (item_field code) (take (if over then 0 else suc n) (name ∷ names))
    ≡ (if over then [] else item_field code name ++ flat_map (item_field code) (take n names))
cut_text code true n name names = refl
cut_text code false n name names = refl

items_alike : (code : List ℕ) (room : ℕ) (xs ys : List (Bor (List ℕ))) → names_only xs ≡ names_only ys
    → items_text code room xs ≡ items_text code room ys
unfolding first_of rest_of
items_alike code room [] [] same = refl
items_alike code room [] (y ∷ ys) same =
    absurd (omega (arith, ap (λ (l : List (Option (List ℕ))). length l) same))
items_alike code room (x ∷ xs) [] same =
    absurd (omega (arith, ap (λ (l : List (Option (List ℕ))). length l) same))
items_alike code room (x ∷ xs) (y ∷ ys) same =
    let name : x.now ≡ y.now = same_Some _ _ (ap first_of same) in
    let item : item_field code x ≡ item_field code y = ap (λ (n : List ℕ). code ++ n ++ codes "|") name in
    let here = length (item_field code y) in
    cut_text code (nat_lt room (length (item_field code x)))
    (fitting code (room - length (item_field code x)) xs) x xs
    ∙ (ap (λ (i : List ℕ). if nat_lt room (length i) then [] else i ++ items_text code (room - length i) xs)
    item
    ∙ (ap (λ (more : List ℕ). if nat_lt room here then [] else item_field code y ++ more)
    (items_alike code (room - here) xs ys (ap rest_of same))
    ∙ sym (cut_text code (nat_lt room here) (fitting code (room - here) ys) y ys)))

list_alike : (room : ℕ) (summary : Summary) (xs ys : List (Bor (List ℕ))) → names_only xs ≡ names_only ys
    → list_text room summary xs ≡ list_text room summary ys
list_alike room Lists.HoldItems xs ys same = items_alike (codes "AS") room xs ys same
list_alike room Lists.OverdueItems xs ys same = items_alike (codes "AT") room xs ys same
list_alike room Lists.ChargedItems xs ys same = items_alike (codes "AU") room xs ys same
list_alike room Lists.UnavailableHolds xs ys same = items_alike (codes "CD") room xs ys same
list_alike room Lists.Empty xs ys same = refl

-- the same items, where a list is wanted
abbrev AreAlike : Option Wanted → List ListItem → List ListItem → Type 0
AreAlike None xs ys = ⊤
AreAlike (Some wanted) xs ys = xs ≡ ys

same_alike : (wanted : Option Wanted) (xs : List ListItem) → AreAlike wanted xs xs
same_alike None xs = tt
same_alike (Some wanted) xs = refl

given_alike : (k : Contents) (room : ℕ) (wanted : Option Wanted) (xs ys : List ListItem)
    → AreAlike wanted xs ys → (l m : Option ItemList)
    → IsListOfItems k wanted xs l → IsListOfItems k wanted ys m → list_given room l ≡ list_given room m
given_alike k room None xs ys alike None None p q = refl
given_alike k room (Some wanted) xs ys alike (Some l) (Some m) p q =
    ap (λ (s : Summary). list_text room s l.names.now) (p.0 ∙ sym q.0)
    ∙ list_alike room m.summary l.names.now m.names.now
    (p.1 ∙ (ap (λ (items : List ListItem). map (item_name k) items) alike ∙ sym q.1))
given_alike k room None xs ys alike None (Some m) p q = absurd q
given_alike k room None xs ys alike (Some l) m p q = absurd p
given_alike k room (Some wanted) xs ys alike None m p q = absurd p
given_alike k room (Some wanted) xs ys alike (Some l) None p q = absurd q

-- Replies of the same values.

status_same : (a b : PatronStatusReply) (o : PatronStatusOutcome) → a.language.now ≡ b.language.now
    → a.date.now ≡ b.date.now
    → a.institution.now ≡ b.institution.now → a.patron.now ≡ b.patron.now
    → concat (patron_status_layout a o) ≡ concat (patron_status_layout b o)
status_same a b (OfStatus.Known known) language date institution patron =
    rw (language, date, institution, patron) refl
status_same a b (OfStatus.NotBlocked known) language date institution patron =
    rw (language, date, institution, patron) refl
status_same a b (OfStatus.Refused refusal) language date institution patron =
    rw (language, date, institution, patron) refl

known_same : (a : PatronStatusReply) (x y : KnownPatron) (notice : List ℕ) → x.flags ≡ y.flags → x.name.now
    ≡ y.name.now
    → x.password ≡ y.password → concat (known_layout a x notice) ≡ concat (known_layout a y notice)
known_same a x y notice flags name password = rw (flags, name, password) refl

refused_same : (a b : PatronInformationReply) (refusal : Refusal) → a.language.now ≡ b.language.now
    → a.date.now ≡ b.date.now
    → a.institution.now ≡ b.institution.now → a.patron.now ≡ b.patron.now
    → information_text a (OfInformation.Refused refusal) ≡ information_text b (OfInformation.Refused refusal)
refused_same a b refusal language date institution patron = rw (language, date, institution, patron) refl

front_same : (a b : PatronInformationReply) (x y : KnownPatron) (c d : Counts) (m n : ℕ) → a.language.now
    ≡ b.language.now
    → a.date.now ≡ b.date.now → a.institution.now ≡ b.institution.now → a.patron.now ≡ b.patron.now → x.flags
    ≡ y.flags
    → x.name.now ≡ y.name.now → x.password ≡ y.password → c ≡ d → m ≡ n
    → concat (information_layout a x c m) ≡ concat (information_layout b y d n)
front_same a b x y c d m n language date institution patron flags name password counts limit =
    rw (language, date, institution, patron, flags, name, password, counts, limit) refl

card_same : (front notice : List ℕ) (a b : CardReply) → a.date.now ≡ b.date.now → a.institution.now
    ≡ b.institution.now
    → a.patron.now ≡ b.patron.now → concat (card_layout front a notice) ≡ concat (card_layout front b notice)
card_same front notice a b date institution patron = rw (date, institution, patron) refl

session_end_same : (a b : CardReply) (r : Option Refusal) → a.date.now ≡ b.date.now → a.institution.now
    ≡ b.institution.now
    → a.patron.now ≡ b.patron.now → concat (session_end_layout a r) ≡ concat (session_end_layout b r)
session_end_same a b None date institution patron = card_same (codes "36Y") [] a b date institution patron
session_end_same a b (Some refusal) date institution patron =
    card_same (codes "36N") (refusal_field refusal) a b date institution patron

payment_same : (a b : CardReply) (r : Option Refusal) → a.date.now ≡ b.date.now → a.institution.now
    ≡ b.institution.now
    → a.patron.now ≡ b.patron.now → concat (payment_layout a r) ≡ concat (payment_layout b r)
payment_same a b None date institution patron =
    card_same (codes "38N") (field_text (codes "AF") (codes "NO FEES HERE")) a b date institution patron
payment_same a b (Some refusal) date institution patron =
    card_same (codes "38N") (refusal_field refusal) a b date institution patron

renew_same : (a b : RenewAllReply) (o : RenewAllOutcome) → a.date.now ≡ b.date.now → a.institution.now
    ≡ b.institution.now
    → concat (renew_all_layout a o) ≡ concat (renew_all_layout b o)
renew_same a b (OfRenewAll.NotRenewed loans) date institution = rw (date, institution) refl
renew_same a b (OfRenewAll.Refused refusal) date institution = rw (date, institution) refl

-- The replies to two messages of the same values.
module _ (k : Contents) (v w : PatronValues) (date : v.date ≡ w.date)
    (language : v.language.now ≡ w.language.now)
    (patron : v.patron.now ≡ w.patron.now) (password : option_copied v.password ≡ option_copied w.password)
  where
    one_status : (a b : PatronStatusReply) (spoken heard : List ℕ) (o : PatronStatusOutcome) → spoken ≡ heard
        → IsStatusReply k v spoken a → IsStatusReply k w heard b
        → concat (patron_status_layout a o) ≡ concat (patron_status_layout b o)
    one_status a b spoken heard o same is so =
        status_same a b o (is.language ∙ (same ∙ sym so.language)) (is.date ∙ (date ∙ sym so.date))
        (is.institution ∙ sym so.institution) (is.patron ∙ (patron ∙ sym so.patron))

    -- by two patrons' files, from which the same language and the same name are reported
    module _ (file other : Option Stored) (p : ℕ) (check : PasswordValidity) (view : PatronView)
        (spoken : language_told file p v.language.now ≡ language_told other p w.language.now)
        (named : name_told file p check v.patron.now ≡ name_told other p check w.patron.now)
      where
        one_flags : (x y : KnownPatron) → IsToldOf file p check view v.patron.now x
            → IsToldOf other p check view w.patron.now y → x.flags ≡ y.flags
        one_flags x y is so = is.flags ∙ sym so.flags

        one_name : (x y : KnownPatron) → IsToldOf file p check view v.patron.now x
            → IsToldOf other p check view w.patron.now y → x.name.now ≡ y.name.now
        one_name x y is so = is.name ∙ (named ∙ sym so.name)

        one_check : (x y : KnownPatron) → IsToldOf file p check view v.patron.now x
            → IsToldOf other p check view w.patron.now y → x.password ≡ y.password
        one_check x y is so = is.password ∙ sym so.password

        one_known : (a b : PatronStatusReply) (o q : PatronStatusOutcome)
            → IsStatusReply k v (language_told file p v.language.now) a
            → IsStatusReply k w (language_told other p w.language.now) b
            → IsKnownStatus file p check view v o → IsKnownStatus other p check view w q
            → concat (patron_status_layout a o) ≡ concat (patron_status_layout b q)
        one_known a b (OfStatus.Known x) (OfStatus.Known y) is so known there =
            one_status a b _ _ (OfStatus.Known x) spoken is so
            ∙ known_same b x y [] (one_flags x y known there) (one_name x y known there)
            (one_check x y known there)
        one_known a b (OfStatus.Known x) (OfStatus.NotBlocked y) is so known there = absurd there
        one_known a b (OfStatus.Known x) (OfStatus.Refused y) is so known there = absurd there
        one_known a b (OfStatus.NotBlocked x) q is so known there = absurd known
        one_known a b (OfStatus.Refused x) q is so known there = absurd known

        one_not_blocked : (a b : PatronStatusReply) (o q : PatronStatusOutcome)
            → IsStatusReply k v (language_told file p v.language.now) a
            → IsStatusReply k w (language_told other p w.language.now) b
            → IsNotBlocked file p check view v o → IsNotBlocked other p check view w q
            → concat (patron_status_layout a o) ≡ concat (patron_status_layout b q)
        one_not_blocked a b (OfStatus.NotBlocked x) (OfStatus.NotBlocked y) is so known there =
            one_status a b _ _ (OfStatus.NotBlocked x) spoken is so
            ∙ known_same b x y (field_text (codes "AF") (codes "CARD NOT BLOCKED"))
            (one_flags x y known there) (one_name x y known there) (one_check x y known there)
        one_not_blocked a b (OfStatus.NotBlocked x) (OfStatus.Known y) is so known there = absurd there
        one_not_blocked a b (OfStatus.NotBlocked x) (OfStatus.Refused y) is so known there = absurd there
        one_not_blocked a b (OfStatus.Known x) q is so known there = absurd known
        one_not_blocked a b (OfStatus.Refused x) q is so known there = absurd known

        one_information : (a b : PatronInformationReply) (xs ys : List ListItem) (wanted : Option Wanted)
            (o q : PatronInformationOutcome) → AreAlike wanted xs ys
            → IsInformationReply k v (language_told file p v.language.now) a
            → IsInformationReply k w (language_told other p w.language.now) b
            → IsKnownInformation k file p check view xs wanted v o
            → IsKnownInformation k other p check view ys wanted w q
            → information_text a o ≡ information_text b q
        one_information a b xs ys wanted (OfInformation.Known x c m l) (OfInformation.Known y d n i) alike is
            so known there =
            let front : concat (information_layout a x c m) ≡ concat (information_layout b y d n) =
            front_same a b x y c d m n (is.language ∙ (spoken ∙ sym so.language))
            (is.date ∙ (date ∙ sym so.date)) (is.institution ∙ sym so.institution)
            (is.patron ∙ (patron ∙ sym so.patron))
            (one_flags x y known.0 there.0) (one_name x y known.0 there.0) (one_check x y known.0 there.0)
            (known.1 ∙ sym there.1) (known.2 ∙ sym there.2) in
            ap (λ (f : List ℕ). with_list f l) front
            ∙ ap (λ (g : List ℕ). concat (information_layout b y d n) ++ g)
            (given_alike k (2038 - length (concat (information_layout b y d n))) wanted xs ys alike l i
            known.3 there.3)
        one_information a b xs ys wanted (OfInformation.Known x c m l) (OfInformation.Refused y) alike is so
            known there = absurd there
        one_information a b xs ys wanted (OfInformation.Refused x) q alike is so known there = absurd known

    one_card : (a b : CardReply) (r : Option Refusal) → IsCardReply k v r a → IsCardReply k w r b
        → (patron_text (SessionEnd a) ≡ patron_text (SessionEnd b))
        × (patron_text (FeePaid a) ≡ patron_text (FeePaid b))
    one_card a b r is so =
        let same_date = is.date ∙ (date ∙ sym so.date) in
        let same_institution = is.institution ∙ sym so.institution in
        let same_patron = is.patron ∙ (patron ∙ sym so.patron) in (
          ap (λ (r : Option Refusal). concat (session_end_layout a r)) is.refusal_is
              ∙ (session_end_same a b r same_date same_institution same_patron
              ∙ ap (λ (r : Option Refusal). concat (session_end_layout b r)) (sym so.refusal_is)),
          ap (λ (r : Option Refusal). concat (payment_layout a r)) is.refusal_is
              ∙ (payment_same a b r same_date same_institution same_patron
              ∙ ap (λ (r : Option Refusal). concat (payment_layout b r)) (sym so.refusal_is)),
        )

    one_renewal : (a b : RenewAllReply) (o : RenewAllOutcome) → IsRenewAllReply k v o a
        → IsRenewAllReply k w o b
        → patron_text (RenewAll a) ≡ patron_text (RenewAll b)
    one_renewal a b o is so =
        ap (λ (o : RenewAllOutcome). concat (renew_all_layout a o)) is.outcome_is
        ∙ (renew_same a b o (is.date ∙ (date ∙ sym so.date)) (is.institution ∙ sym so.institution)
        ∙ ap (λ (o : RenewAllOutcome). concat (renew_all_layout b o)) (sym so.outcome_is))

    -- two that are refused
    refused_status : (refusal : Refusal) (a b : PatronStatusReply) → IsStatusReply k v v.language.now a
        → a.outcome ≡ OfStatus.Refused refusal → IsStatusReply k w w.language.now b → b.outcome
        ≡ OfStatus.Refused refusal
        → patron_text (Status a) ≡ patron_text (Status b)
    refused_status refusal a b is out so there =
        ap (λ (o : PatronStatusOutcome). concat (patron_status_layout a o)) out
        ∙ (one_status a b _ _ (OfStatus.Refused refusal) language is so
        ∙ ap (λ (o : PatronStatusOutcome). concat (patron_status_layout b o)) (sym there))

    refused_information : (refusal : Refusal) (a b : PatronInformationReply)
        → IsInformationReply k v v.language.now a
        → a.outcome ≡ OfInformation.Refused refusal → IsInformationReply k w w.language.now b
        → b.outcome ≡ OfInformation.Refused refusal → patron_text (Information a)
        ≡ patron_text (Information b)
    refused_information refusal a b is out so there =
        ap (λ (o : PatronInformationOutcome). information_text a o) out
        ∙ (refused_same a b refusal (is.language ∙ (language ∙ sym so.language))
        (is.date ∙ (date ∙ sym so.date))
        (is.institution ∙ sym so.institution) (is.patron ∙ (patron ∙ sym so.patron))
        ∙ ap (λ (o : PatronInformationOutcome). information_text b o) (sym there))

    one_refused : (kind : PatronKind) (refusal : Refusal) (a b : PatronReply)
        → IsRefusedPatron k v kind refusal a
        → IsRefusedPatron k w kind refusal b → patron_text a ≡ patron_text b
    one_refused Kinds.Status refusal (Status a) (Status b) is so =
        refused_status refusal a b is.0 is.1 so.0 so.1
    one_refused Kinds.Status refusal (Status a) _ is so = absurd so
    one_refused Kinds.Information refusal (Information a) (Information b) is so =
        refused_information refusal a b is.0 is.1 so.0 so.1
    one_refused Kinds.Information refusal (Information a) _ is so = absurd so
    one_refused Kinds.EndSession refusal (SessionEnd a) (SessionEnd b) is so =
        (one_card a b (Some refusal) is so).0
    one_refused Kinds.EndSession refusal (SessionEnd a) _ is so = absurd so
    one_refused Kinds.Block refusal (Status a) (Status b) is so =
        refused_status refusal a b is.0 is.1 so.0 so.1
    one_refused Kinds.Block refusal (Status a) _ is so = absurd so
    one_refused Kinds.FeePaid refusal (FeePaid a) (FeePaid b) is so = (one_card a b (Some refusal) is so).1
    one_refused Kinds.FeePaid refusal (FeePaid a) _ is so = absurd so
    one_refused Kinds.RenewAll refusal (RenewAll a) (RenewAll b) is so =
        one_renewal a b (OfRenewAll.Refused refusal) is so
    one_refused Kinds.RenewAll refusal (RenewAll a) _ is so = absurd so
    one_refused _ refusal _ b is so = absurd is

    module _ (e f : Extensions) (p : ℕ) (check : PasswordValidity) (seen : PatronView)
        (xs ys : List ListItem)
        (spoken : language_told e.patrons p v.language.now ≡ language_told f.patrons p w.language.now)
        (named : name_told e.patrons p check v.patron.now ≡ name_told f.patrons p check w.patron.now)
      where
        one_look : (question : PatronQuestion) (a b : PatronReply) → AreAlike (list_asked question) xs ys
            → IsLookReply k v e p check seen xs question a → IsLookReply k w f p check seen ys question b
            → patron_text a ≡ patron_text b
        one_look about.Status (Status a) (Status b) alike is so =
            one_known e.patrons f.patrons p check seen spoken named a b a.outcome b.outcome is.0 so.0 is.1
            so.1
        one_look about.Status (Status a) _ alike is so = absurd so
        one_look about.Block (Status a) (Status b) alike is so =
            one_not_blocked e.patrons f.patrons p check seen spoken named a b a.outcome b.outcome is.0 so.0
            is.1 so.1
        one_look about.Block (Status a) _ alike is so = absurd so
        one_look (about.Information wanted) (Information a) (Information b) alike is so =
            one_information e.patrons f.patrons p check seen spoken named a b xs ys wanted a.outcome b.outcome
            alike is.0 so.0 is.1 so.1
        one_look (about.Information wanted) (Information a) _ alike is so = absurd so
        one_look about.RenewAll (RenewAll a) (RenewAll b) alike is so =
            one_renewal a b (OfRenewAll.NotRenewed seen.charged) is so
        one_look about.RenewAll (RenewAll a) _ alike is so = absurd so
        one_look _ _ b alike is so = absurd is

    -- by the same password
    at_look : (e : Extensions) (look : PatronLook) (desk : Desk) (a b : PatronReply)
        → IsReplyAt k v e look desk a → IsReplyAt k w e look desk b → patron_text a ≡ patron_text b
    at_look e look desk a b is so =
        let check = password_told e.patrons look.patron (option_copied w.password) in
        let made = look_allowed check look in
        let first : IsReplyOfLook k v e check made desk a =
        subst (λ (given : Option (List ℕ)). IsReplyOfLook k v e (password_told e.patrons look.patron given)
        (look_allowed (password_told e.patrons look.patron given) look) desk a) password is in
        one_look e e look.patron check (view_seen k desk made) (items_seen k desk made) (items_seen k desk made)
        (ap (λ (l : List ℕ). language_told e.patrons look.patron l) language)
        (ap (λ (n : List ℕ). name_told e.patrons look.patron check n) patron) made.question a b
        (same_alike (list_asked made.question) (items_seen k desk made)) first so

    -- have one text
    pub one_patron_text : (e : Extensions) (kind : PatronKind) (asks : Result PatronAsk Refusal)
        (did : List Deed) (a b : PatronReply)
        → IsPatronReply k v e kind asks did a → IsPatronReply k w e kind asks did b → patron_text a
        ≡ patron_text b
    one_patron_text e kind (Err refusal) [] a b is so = one_refused kind refusal a b is so
    one_patron_text e kind (Ok ask.EndSession) [] (SessionEnd a) (SessionEnd b) is so =
        (one_card a b None is so).0
    one_patron_text e kind (Ok ask.EndSession) [] (SessionEnd a) _ is so = absurd so
    one_patron_text e kind (Ok ask.TakePayment) [] (FeePaid a) (FeePaid b) is so = (one_card a b None is so).1
    one_patron_text e kind (Ok ask.TakePayment) [] (FeePaid a) _ is so = absurd so
    one_patron_text e kind (Ok (ask.Look look)) (Looked shown ∷ []) a b is so =
        at_look e look (state_after (facts_of k) shown).desk a b is so
    one_patron_text e kind _ _ _ b is so = absurd is

-- With a wrong password no list is asked: whatever the items are, they aren't reported.
untold : (question : PatronQuestion) (xs ys : List ListItem)
    → AreAlike (list_asked (question_allowed Wrong question)) xs ys
untold about.Status xs ys = tt
untold (about.Information wanted) xs ys = tt
untold about.Block xs ys = tt
untold about.RenewAll xs ys = tt

pub wrong_alike : (k : Contents) (v : PatronValues) (look : PatronLook) (e f : Extensions) (desk other : Desk)
    (a b : PatronReply) → AreMistaken k v look e f desk other
    → IsReplyAt k v e look desk a → IsReplyAt k v f look other b → patron_text a ≡ patron_text b
wrong_alike k v look e f desk other a b wrong is so =
    let made = look_allowed Wrong look in
    let first : IsReplyOfLook k v e Wrong made desk a =
    subst (λ (c : PasswordValidity). IsReplyOfLook k v e c (look_allowed c look) desk a) wrong.first is in
    let second : IsReplyOfLook k v f Wrong made other b =
    subst (λ (c : PasswordValidity). IsReplyOfLook k v f c (look_allowed c look) other b) wrong.second so in
    let there : IsLookReply k v f look.patron Wrong (view_seen k desk made) (items_seen k other made)
    made.question b =
    subst (λ (seen : PatronView). IsLookReply k v f look.patron Wrong seen (items_seen k other made)
    made.question b) (sym wrong.view) second in
    one_look k v v refl refl refl refl e f look.patron Wrong (view_seen k desk made) (items_seen k desk made)
    (items_seen k other made)
    (ap (λ (own : Option (List ℕ)). unwrap_or own v.language.now) wrong.language) refl made.question a b
    (untold look.question (items_seen k desk made) (items_seen k other made)) first there
