-- The words of acts, and of what a hold admits.
use Rattle.std.specs.Prelude.{ℕ, List, [], ◌∷◌, Option, codes, find}
use Rattle.std.specs.Str.{bytes_eq}
use Rattle.hd_ask_parts.specs.declared.act.Act.{Act}
use Rattle.hd_ask_parts.specs.declared.act.Act.TheVariants as acts
use Rattle.hd_ask_parts.specs.declared.act.Admits.{Admits}
use Rattle.hd_ask_parts.specs.declared.act.Admits.TheVariants as admitted

-- the word of each act
abbrev pub act_word : Act → List ℕ
act_word acts.Checkout = codes "checkout"
act_word acts.CheckoutOrRenewal = codes "checkout or renewal"
act_word acts.OffLine = codes "checkout off line"
act_word acts.Checkin = codes "checkin"
act_word acts.Add = codes "hold"
act_word acts.Delete = codes "delete hold"
act_word acts.Change = codes "change hold"
act_word acts.Renewal = codes "renewal"
act_word acts.CancelCheckout = codes "cancel checkout"
act_word acts.CancelCheckin = codes "cancel checkin"
act_word acts.CancelRenewal = codes "cancel renewal"
act_word acts.CancelAdd = codes "cancel hold"
act_word acts.CancelDelete = codes "cancel delete hold"
act_word acts.CancelChange = codes "cancel change hold"

-- each act once
abbrev pub all_acts : List Act
all_acts =
    acts.Checkout ∷ acts.CheckoutOrRenewal ∷ acts.OffLine ∷ acts.Checkin
    ∷ acts.Add ∷ acts.Delete ∷ acts.Change
    ∷ acts.Renewal ∷ acts.CancelCheckout ∷ acts.CancelCheckin ∷ acts.CancelRenewal ∷ acts.CancelAdd
    ∷ acts.CancelDelete ∷ acts.CancelChange ∷ []

-- the first of some whose word it is
abbrev pub named : {W : Type 0} → (W → List ℕ) → List W → List ℕ → Option W
named word_of all word = find (λ one. bytes_eq (word_of one) word) all

-- the act of a word, where it is one's
unfoldable pub act_named : List ℕ → Option Act
act_named = named act_word all_acts

-- the word of what a hold admits
abbrev pub admits_word : Admits → List ℕ
admits_word admitted.Any = codes "any"
admits_word admitted.Copy = codes "copy"
admits_word admitted.Branch = codes "branch"

-- each of these once
abbrev pub all_admits : List Admits
all_admits = admitted.Any ∷ admitted.Copy ∷ admitted.Branch ∷ []

-- what a word says that a hold admits
unfoldable pub admits_named : List ℕ → Option Admits
admits_named = named admits_word all_admits
