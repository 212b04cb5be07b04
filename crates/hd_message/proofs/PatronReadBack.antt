-- A patron message is read back.
use Rattle.std.proofs.Common.{◌≡◌, ℕ, Bool, true, false, List, [], ◌++◌, codes, is_none, length}
use Rattle.std.proofs.Common.{take, drop, refl, sym, ap, ◌∙◌, arith, length-append, append_assoc}
use Rattle.hd_message.proofs.PatronLemmas.{patron_message_of, patron_states_of}
use Rattle.hd_message.proofs.ReadBackLemmas.{drop_fixed, take_fixed}
use Rattle.hd_message.proofs.WrittenLemmas.{written_value}
use Rattle.hd_message.specs.Fields.{yes_no}
use Rattle.hd_message.specs.Grammar.{fields_text, value_of}
use Rattle.hd_message.specs.PatronReading.{StatesPatron}
use Rattle.hd_message.specs.PatronRequests.{IsCard, IsPatronInformation, IsPatronStatus, summary_of}
use Rattle.hd_message.specs.PatronTable.{patron_code, patron_column, patron_date, patron_width}
use Rattle.hd_message.specs.Values.{first_value, lacks, unless_empty}
use Rattle.hd_message.specs.WrittenPatrons.{HasCardValues, HasInformationValues, HasPatronValues}
use Rattle.hd_message.specs.WrittenPatrons.{HasStatusValues, IsPatronReadBack}
use Rattle.hd_message.specs.WrittenPatrons.{IsPatronWritable, PatronValues, patron_fixed_text}
use Rattle.hd_message.specs.declared.patron_kind.PatronKind.{PatronKind}
use Rattle.hd_message.specs.declared.patron_kind.PatronKind.TheVariants as Kinds
use Rattle.hd_message.specs.declared.patron_request.CardRequest.{CardRequest}
use Rattle.hd_message.specs.declared.patron_request.PatronInformationRequest.{PatronInformationRequest}
use Rattle.hd_message.specs.declared.patron_request.PatronRequest.{PatronRequest}
use Rattle.hd_message.specs.declared.patron_request.PatronRequest.TheVariants.{Status, Information}
use Rattle.hd_message.specs.declared.patron_request.PatronRequest.TheVariants.{EndSession, Block, FeePaid}
use Rattle.hd_message.specs.declared.patron_request.PatronRequest.TheVariants.{RenewAll}
use Rattle.hd_message.specs.declared.patron_request.PatronStatusRequest.{PatronStatusRequest}

-- the columns of a fixed part
second : (a b rest : List ℕ) (n m : ℕ) → length a ≡ n → length b ≡ m → take m (drop n (a ++ (b ++ rest))) ≡ b
second a b rest n m h g = ap (take m) (drop_fixed n a (b ++ rest) h) ∙ take_fixed m b rest g

third : (a b c : List ℕ) → length a ≡ 3 → length b ≡ 18 → length c ≡ 10
    → take 10 (drop 21 (a ++ (b ++ (c ++ [])))) ≡ c
third a b c h g f =
    let front : length (a ++ b) ≡ 21 = omega (arith, length-append a b, h, g) in
    ap (λ xs. take 10 (drop 21 xs)) (sym (append_assoc a b (c ++ [])))
    ∙ ap (take 10) (drop_fixed 21 (a ++ b) (c ++ []) front)
    ∙ take_fixed 10 c [] f

flag_width : (retained : Bool) → length (yes_no retained) ≡ 1
flag_width true = refl
flag_width false = refl

-- the code and the fixed part are as wide as those of the message
fixed_width : (kind : PatronKind) (v : PatronValues) → IsPatronWritable v
    → length (patron_fixed_text kind v) ≡ patron_width kind
fixed_width Kinds.Status v w = simp length-append (omega (arith, w.language, w.date))
fixed_width Kinds.Information v w = simp length-append (omega (arith, w.language, w.date, w.summary))
fixed_width Kinds.EndSession v w = simp length-append (omega (arith, w.date))
fixed_width Kinds.Block v w = simp length-append (omega (arith, flag_width v.retained, w.date))
fixed_width Kinds.FeePaid v w = simp length-append (omega (arith, w.date, w.fee))
fixed_width Kinds.RenewAll v w = simp length-append (omega (arith, w.date))

code_is : (kind : PatronKind) (v : PatronValues) (part : List ℕ)
    → take 2 (patron_fixed_text kind v ++ part) ≡ patron_code kind
code_is Kinds.Status v part = refl
code_is Kinds.Information v part = refl
code_is Kinds.EndSession v part = refl
code_is Kinds.Block v part = refl
code_is Kinds.FeePaid v part = refl
code_is Kinds.RenewAll v part = refl

-- what is read of it, both ways
module _ (v : PatronValues) (w : IsPatronWritable v) where
  value : (code : List ℕ) → first_value (fields_text v.fields) code ≡ value_of v.fields code
  value code = written_value code v.fields w.fields

  filled : (code : List ℕ)
      → unless_empty (first_value (fields_text v.fields) code) ≡ unless_empty (value_of v.fields code)
  filled code = ap unless_empty (value code)

  status_language : patron_column Kinds.Status 0 (patron_fixed_text Kinds.Status v) ≡ v.language
  status_language = take_fixed 3 v.language (v.date ++ []) w.language

  status_date : patron_column Kinds.Status 1 (patron_fixed_text Kinds.Status v) ≡ v.date
  status_date = second v.language v.date [] 3 18 w.language w.date

  information_language : patron_column Kinds.Information 0 (patron_fixed_text Kinds.Information v)
      ≡ v.language
  information_language = take_fixed 3 v.language (v.date ++ (v.summary ++ [])) w.language

  information_date : patron_column Kinds.Information 1 (patron_fixed_text Kinds.Information v) ≡ v.date
  information_date = second v.language v.date (v.summary ++ []) 3 18 w.language w.date

  information_summary : patron_column Kinds.Information 2 (patron_fixed_text Kinds.Information v) ≡ v.summary
  information_summary = third v.language v.date v.summary w.language w.date w.summary

  card_date : (kind : PatronKind) → patron_date kind (patron_fixed_text kind v) ≡ v.date
  card_date Kinds.Status = status_date
  card_date Kinds.Information = information_date
  card_date Kinds.EndSession = take_fixed 18 v.date [] w.date
  card_date Kinds.Block = second (yes_no v.retained) v.date [] 1 18 (flag_width v.retained) w.date
  card_date Kinds.FeePaid = take_fixed 18 v.date (v.fee ++ []) w.date
  card_date Kinds.RenewAll = take_fixed 18 v.date [] w.date

  status_values : (r : PatronStatusRequest)
      → IsPatronStatus (patron_fixed_text Kinds.Status v) (fields_text v.fields) r → HasStatusValues v r
  status_values r s = record {
    language = s.language ∙ status_language;
    date = s.date ∙ status_date;
    patron = sym (value (codes "AA")) ∙ s.patron;
    password = s.password ∙ filled (codes "AD");
  }

  status_states : (r : PatronStatusRequest) → HasStatusValues v r
      → IsPatronStatus (patron_fixed_text Kinds.Status v) (fields_text v.fields) r
  status_states r h = record {
    language = h.language ∙ sym status_language;
    date = h.date ∙ sym status_date;
    patron = value (codes "AA") ∙ h.patron;
    password = h.password ∙ sym (filled (codes "AD"));
  }

  information_values : (r : PatronInformationRequest)
      → IsPatronInformation (patron_fixed_text Kinds.Information v) (fields_text v.fields) r
      → HasInformationValues v r
  information_values r s = record {
    language = s.language ∙ information_language;
    date = s.date ∙ information_date;
    summary = s.summary ∙ ap summary_of information_summary;
    patron = sym (value (codes "AA")) ∙ s.patron;
    password = s.password ∙ filled (codes "AD");
    first = s.first ∙ filled (codes "BP");
    last = s.last ∙ filled (codes "BQ");
  }

  information_states : (r : PatronInformationRequest) → HasInformationValues v r →
      IsPatronInformation (patron_fixed_text Kinds.Information v) (fields_text v.fields) r
  information_states r h = record {
    language = h.language ∙ sym information_language;
    date = h.date ∙ sym information_date;
    summary = h.summary ∙ ap summary_of (sym information_summary);
    patron = value (codes "AA") ∙ h.patron;
    password = h.password ∙ sym (filled (codes "AD"));
    first = h.first ∙ sym (filled (codes "BP"));
    last = h.last ∙ sym (filled (codes "BQ"));
  }

  card_values : (kind : PatronKind) (r : CardRequest)
      → IsCard kind (patron_fixed_text kind v) (fields_text v.fields) r → HasCardValues v r
  card_values kind r s =
      record { date = s.date ∙ card_date kind; patron = sym (value (codes "AA")) ∙ s.patron }

  card_states : (kind : PatronKind) (r : CardRequest) → HasCardValues v r
      → IsCard kind (patron_fixed_text kind v) (fields_text v.fields) r
  card_states kind r h =
      record { date = h.date ∙ sym (card_date kind); patron = value (codes "AA") ∙ h.patron }

  values_of_kind : (kind : PatronKind) (request : PatronRequest)
      → StatesPatron kind (patron_fixed_text kind v) (fields_text v.fields) request
      → HasPatronValues kind v request
  values_of_kind Kinds.Status (Status r) s = (s.0, status_values r s.1)
  values_of_kind Kinds.Information (Information r) s = (s.0, information_values r s.1)
  values_of_kind Kinds.EndSession (EndSession r) s = (s.0, card_values Kinds.EndSession r s.1)
  values_of_kind Kinds.Block (Block r) s = (s.0, card_values Kinds.Block r s.1)
  values_of_kind Kinds.FeePaid (FeePaid r) s = (s.0, card_values Kinds.FeePaid r s.1)
  values_of_kind Kinds.RenewAll (RenewAll r) s = (s.0, card_values Kinds.RenewAll r s.1)
  values_of_kind _ _ s = absurd (let e = s.0 in cc)

  states_of_kind : (kind : PatronKind) (request : PatronRequest) → HasPatronValues kind v request →
      StatesPatron kind (patron_fixed_text kind v) (fields_text v.fields) request
  states_of_kind Kinds.Status (Status r) h = (h.0, status_states r h.1)
  states_of_kind Kinds.Information (Information r) h = (h.0, information_states r h.1)
  states_of_kind Kinds.EndSession (EndSession r) h = (h.0, card_states Kinds.EndSession r h.1)
  states_of_kind Kinds.Block (Block r) h = (h.0, card_states Kinds.Block r h.1)
  states_of_kind Kinds.FeePaid (FeePaid r) h = (h.0, card_states Kinds.FeePaid r h.1)
  states_of_kind Kinds.RenewAll (RenewAll r) h = (h.0, card_states Kinds.RenewAll r h.1)
  states_of_kind _ _ h = absurd (let e = h.0 in cc)

pub patron_back : (kind : PatronKind) (v : PatronValues) → IsPatronWritable v → IsPatronReadBack kind v
patron_back kind v w request =
    let fixed = patron_fixed_text kind v in
    let part = fields_text v.fields in
    let wide = fixed_width kind v w in
    let code = code_is kind v part in
    let named : lacks part (codes "AA") ≡ false =
    ap is_none (written_value (codes "AA") v.fields w.fields) ∙ w.patron in (
      λ m. values_of_kind v w kind request (patron_states_of kind fixed part request wide code m),
      λ h. patron_message_of kind fixed part request wide code named (states_of_kind v w kind request h),
    )
