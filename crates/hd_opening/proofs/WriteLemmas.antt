-- What is appended to a text.
use Rattle.std.proofs.Common.{◌≡◌, ℕ, codes, decimal, List, [], ◌∷◌, ◌++◌, refl, sym, ap, subst, ◌∙◌}
use Rattle.std.proofs.Common.{append_assoc}
use Rattle.std.proofs.lemmas.List.{append-nil}
use Rattle.hd_rules.specs.declared.rows.OpeningRow.{OpeningRow}
use Rattle.hd_catalogue.specs.Contents.{Contents}
use Rattle.hd_opening.specs.Pieces.{AreLines, ArePieceTexts, IsLine, IsPieceText, admits_piece, behind_bars}
use Rattle.hd_opening.specs.Pieces.{copy_piece, day_piece}
use Rattle.hd_opening.specs.declared.piece.Piece.{Piece}
use Rattle.hd_opening.specs.declared.piece.Piece.TheVariants as piece
use Rattle.hd_rules.specs.declared.holds.Hold.{Hold}
use Rattle.hd_rules.specs.declared.rows.OpeningRow.TheVariants as row

-- one value more
pub texts_push : (k : Contents) (ps : List Piece) (texts : List (List ℕ)) (p : Piece) (text : List ℕ)
    → ArePieceTexts k ps texts → IsPieceText k p text → ArePieceTexts k (ps ++ p ∷ []) (texts ++ text ∷ [])
texts_push k [] texts p text h is = (text, [], is, refl, ap (λ ts. ts ++ text ∷ []) h)
texts_push k (q ∷ ps) texts p text (t, more, isq, are, whole) is =
    (t, more ++ text ∷ [], isq, texts_push k ps more p text are is, ap (λ ts. ts ++ text ∷ []) whole)

pub bars_push : (texts : List (List ℕ)) (text : List ℕ)
    → behind_bars (texts ++ text ∷ []) ≡ behind_bars texts ++ 124 ∷ text
bars_push [] text = append-nil (124 ∷ text)
bars_push (t ∷ texts) text = ap (λ rest. 124 ∷ t ++ rest) (bars_push texts text)
    ∙ sym (append_assoc (124 ∷ t) (behind_bars texts) (124 ∷ text))

-- one line more
pub lines_push : (k : Contents) (rows : List OpeningRow) (text : List ℕ) (r : OpeningRow) (line : List ℕ)
    → AreLines k rows text → IsLine k r line → AreLines k (rows ++ r ∷ []) (text ++ (line ++ 10 ∷ []))
lines_push k [] text next line h is = (line, [], is, refl, ap (λ t. t ++ (line ++ 10 ∷ [])) h)
lines_push k (r ∷ rows) text next line (l, more, isl, are, whole) is = (
  l,
  more ++ (line ++ 10 ∷ []),
  isl,
  lines_push k rows more next line are is,
  ap (λ t. t ++ (line ++ 10 ∷ [])) whole ∙ append_assoc l (10 ∷ more) (line ++ 10 ∷ []),
)

-- a value behind its bar
pub behind_more : (start out : List ℕ) (texts : List (List ℕ)) (text : List ℕ)
    → out ≡ start ++ behind_bars texts → (out ++ 124 ∷ []) ++ text ≡ start ++ behind_bars (texts ++ text ∷ [])
behind_more start out texts text h =
    append_assoc out (124 ∷ []) text ∙ ap (λ o. o ++ 124 ∷ text) h
    ∙ append_assoc start (behind_bars texts) (124 ∷ text)
    ∙ ap (λ b. start ++ b) (sym (bars_push texts text))

-- the end of a line
pub line_end : (old bars out : List ℕ) (letter : ℕ) → out ≡ (old ++ letter ∷ []) ++ bars
    → out ++ 10 ∷ [] ≡ (old ++ (letter ∷ bars)) ++ 10 ∷ []
line_end old bars out letter h = ap (λ o. o ++ 10 ∷ []) (h ∙ append_assoc old (letter ∷ []) bars)

-- a line behind those of the rows before it
pub line_more : (head lines line out : List ℕ) → out ≡ head ++ 10 ∷ lines
    → (out ++ line) ++ 10 ∷ [] ≡ head ++ 10 ∷ (lines ++ (line ++ 10 ∷ []))
line_more head lines line out h =
    append_assoc out line (10 ∷ []) ∙ ap (λ o. o ++ (line ++ 10 ∷ [])) h
    ∙ append_assoc head (10 ∷ lines) (line ++ 10 ∷ [])

-- the line of a hold
pub hold_line : (k : Contents) (t : ℕ) (h : Hold) (a c d : Piece) (texts : List (List ℕ)) (old new : List ℕ)
    → a ≡ admits_piece h.kind → c ≡ copy_piece h.kind → d ≡ day_piece h.expiry
    → ArePieceTexts k (piece.Title t ∷ piece.Patron h.patron ∷ piece.Number h.stamp ∷ a ∷ c
    ∷ piece.Branch h.pickup ∷ d ∷ []) texts → new ≡ (old ++ (82 ∷ behind_bars texts)) ++ 10 ∷ []
    → (line : List ℕ) × IsLine k (row.Hold t h) line × (new ≡ (old ++ line) ++ 10 ∷ [])
hold_line k t h a c d texts old new ea ec ed are is =
    let one = subst
    (λ p. ArePieceTexts k (piece.Title t ∷ piece.Patron h.patron ∷ piece.Number h.stamp ∷ p ∷ c
    ∷ piece.Branch h.pickup ∷ d ∷ []) texts) ea are in
    let two = subst
    (λ p. ArePieceTexts k
    (piece.Title t ∷ piece.Patron h.patron ∷ piece.Number h.stamp ∷ admits_piece h.kind ∷ p
    ∷ piece.Branch h.pickup ∷ d ∷ []) texts) ec one in
    let three = subst
    (λ p. ArePieceTexts k
    (piece.Title t ∷ piece.Patron h.patron ∷ piece.Number h.stamp ∷ admits_piece h.kind ∷ copy_piece h.kind
    ∷ piece.Branch h.pickup ∷ p ∷ [])
    texts) ed two in
    (82 ∷ behind_bars texts, (texts, three, refl), is)

-- the first line
pub first_put : (old : List ℕ) (last : ℕ) (hex number digest a b c d e : List ℕ)
    → a ≡ old ++ codes "H|opening|1|" → b ≡ a ++ number → c ≡ b ++ 124 ∷ []
    → d ≡ c ++ digest → e ≡ d ++ 10 ∷ [] → number ≡ decimal last → digest ≡ hex → e
    ≡ (old ++ (codes "H" ++ behind_bars (codes "opening" ∷ codes "1" ∷ decimal last ∷ hex ∷ []))) ++ 10 ∷ []
first_put old last hex number digest a b c d e ea eb ec ed ee en eh =
    let third : c ≡ ((old ++ codes "H|opening|1|") ++ decimal last) ++ 124 ∷ [] =
    ec ∙ ap (λ o. o ++ 124 ∷ [])
    (eb ∙ ap (λ o. o ++ number) ea ∙ ap (λ n. (old ++ codes "H|opening|1|") ++ n) en) in
    let whole : d ≡ old ++ (codes "H|opening|1|" ++ (decimal last ++ 124 ∷ (hex ++ []))) =
    ed ∙ ap (λ o. o ++ digest) third ∙ ap
    (λ t. (((old ++ codes "H|opening|1|") ++ decimal last) ++ 124 ∷ []) ++ t) (eh ∙ sym (append-nil hex))
    ∙ append_assoc ((old ++ codes "H|opening|1|") ++ decimal last) (124 ∷ []) (hex ++ [])
    ∙ append_assoc (old ++ codes "H|opening|1|") (decimal last) (124 ∷ (hex ++ []))
    ∙ append_assoc old (codes "H|opening|1|") (decimal last ++ 124 ∷ (hex ++ [])) in
    ee ∙ ap (λ o. o ++ 10 ∷ []) whole
