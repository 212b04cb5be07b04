-- A loop that puts a function's value in the place of each element.
use Rattle.std.proofs.Common.{◌≡◌, ℕ, ◌+◌, ◌<◌, List, [], ◌∷◌, ◌++◌, map, take, drop, length, get_or, set}
use Rattle.std.proofs.Common.{sym, ap, ◌∙◌, arith}
use Rattle.std.proofs.lemmas.List.{append_assoc, drop_more, get_or-map, get_or_at, length-map, length-take-le}
use Rattle.std.proofs.lemmas.List.{map-set, map_more, set_at}

-- one more of them: f reads an element, and h is the function
pub passed_more : {X Y : Type 0} (f : X → Y) (h : Y → Y) (ys : List Y) (xs : List X) (i : ℕ) (v d : X)
    → i < length ys → i < length xs →
    map f xs ≡ map h (take i ys) ++ drop i ys → f v ≡ h (f (get_or xs i d)) →
    map f (set xs i v) ≡ map h (take (i + 1) ys) ++ drop (i + 1) ys
passed_more f h ys xs i v d l m e w =
    let y = get_or ys i (f d) in
    let done = map h (take i ys) in
    let long : length done ≡ i = length-map (take i ys) h ∙ length-take-le i ys (omega arith) in
    let is : map f xs ≡ done ++ (y ∷ drop (i + 1) ys) =
    e ∙ ap (λ rest. done ++ rest) (drop_more ys i (f d) l) in
    let here : f (get_or xs i d) ≡ y =
    sym (get_or-map f xs i d (f d) m) ∙ ap (λ zs. get_or zs i (f d)) is
    ∙ get_or_at done y (drop (i + 1) ys) (f d) i long in
    let new : f v ≡ h y = w ∙ ap h here in
    map-set f xs i v ∙ ap (λ zs. set zs i (f v)) is ∙ set_at done y (drop (i + 1) ys) (f v) i long
    ∙ ap (λ z. done ++ (z ∷ drop (i + 1) ys)) new ∙ sym (append_assoc done (h y ∷ []) (drop (i + 1) ys))
    ∙ ap (λ zs. zs ++ drop (i + 1) ys) (sym (map_more h ys i (f d) l))
