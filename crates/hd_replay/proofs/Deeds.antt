-- What a journal does in some events, and in some more.
use Rattle.std.proofs.Common.{◌≡◌, ◌∙◌, List, [], ◌∷◌, ◌++◌, refl, sym, ap, subst, append_assoc, append-nil}
use Rattle.std.proofs.lemmas.List.Concat.{flat_map-append}
use Rattle.hd_rules.specs.Journal.{Turn}
use Rattle.hd_catalogue.specs.Contents.{Contents}
use Rattle.hd_journal.specs.Books.{Book}
use Rattle.hd_exchange.specs.Deeds.{AreShown, Deed, Made, Looked, turns_in}
use Rattle.hd_session.specs.Scripts.{Event, deeds_of, turns_of}

turns_append : (did more : List Deed) → turns_in (did ++ more) ≡ turns_in did ++ turns_in more
turns_append [] more = refl
turns_append (Made turn ∷ did) more = ap (λ (t : List Turn). turn ∷ t) (turns_append did more)
turns_append (Looked shown ∷ did) more = turns_append did more

-- their deeds
pub deeds_append : (es then : List Event) → deeds_of (es ++ then) ≡ deeds_of es ++ deeds_of then
deeds_append es then = flat_map-append (λ (event : Event). event.did) es then

-- their turns
pub turns_of_append : (es then : List Event) → turns_of (es ++ then) ≡ turns_of es ++ turns_of then
turns_of_append es then = ap turns_in (deeds_append es then) ∙ turns_append (deeds_of es) (deeds_of then)

-- what their looks are shown
shown_append : (k : Contents) (shows : List Turn → Book → Type 0) (turns : List Turn) (did more : List Deed)
    → AreShown k shows turns did → AreShown k shows (turns ++ turns_in did) more
    → AreShown k shows turns (did ++ more)
shown_append k shows turns [] more first next =
    subst (λ (t : List Turn). AreShown k shows t more) (append-nil turns) next
shown_append k shows turns (Made turn ∷ did) more first next =
    shown_append k shows (turns ++ turn ∷ []) did more first
    (subst (λ (t : List Turn). AreShown k shows t more)
    (sym (append_assoc turns (turn ∷ []) (turns_in did))) next)
shown_append k shows turns (Looked shown ∷ did) more first next =
    (first.0, shown_append k shows turns did more first.1 next)

pub shown_of_append : (k : Contents) (shows : List Turn → Book → Type 0) (turns : List Turn)
    (es then : List Event)
    → AreShown k shows turns (deeds_of es) → AreShown k shows (turns ++ turns_of es) (deeds_of then)
    → AreShown k shows turns (deeds_of (es ++ then))
shown_of_append k shows turns es then first next =
    subst (λ (did : List Deed). AreShown k shows turns did) (sym (deeds_append es then))
    (shown_append k shows turns (deeds_of es) (deeds_of then) first next)
