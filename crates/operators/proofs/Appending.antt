-- Texts that grow part by part.
use Rattle.std.proofs.Common.{◌≡◌, ℕ, ◌+◌, ◌<◌, ◌≤◌, Bool, true, false, List, [], ◌∷◌, ◌++◌, map, length, get_or, take, codes, sym, refl, ap, ◌∙◌, ap₂, arith}
use Rattle.std.proofs.lemmas.List.{append_assoc, append-nil, flat_map_more, take_more, length-take-le}
use Rattle.std.specs.List.{range_with_len, join_by}
use Rattle.std.proofs.lemmas.List.FromFn.{length-map-range_with_len, map-range_with_len_more}
use lib.Utf8.{encode}
use Rattle.operators.specs.Text.{row, digit}

module _ {X : Type 0} (f : X → List ℕ) (separator : List ℕ) where
  abbrev joined : List X → List ℕ
  joined xs = join_by f separator xs

  push_first : (xs : List X) (x : X) → length xs ≤ 0 → joined (xs ++ x ∷ []) ≡ joined xs ++ f x
  push_first [] x h = append-nil (f x)
  push_first (y ∷ ys) x h = absurd (omega arith)

  push_more : (xs : List X) (x : X) → 0 < length xs → joined (xs ++ x ∷ []) ≡ (joined xs ++ separator) ++ f x
  push_more [] x h = absurd (omega arith)
  push_more (y ∷ ys) x h =
      sym (flat_map_more (λ y. separator ++ f y) (f y) ys x) ∙ sym (append_assoc (joined (y ∷ ys)) separator (f x))

  -- one part more, behind a separator if it is not the first
  module _ (xs : List X) (i : ℕ) (d : X) (before old mid new : List ℕ) (h : i < length xs) (e : old ≡ before ++ joined (take i xs)) (n : new ≡ mid ++ f (get_or xs i d)) where
    pub joined_first : i ≤ 0 → mid ≡ old → new ≡ before ++ joined (take (i + 1) xs)
    joined_first k m =
        let p = push_first (take i xs) (get_or xs i d) (omega (arith, length-take-le i xs (omega arith))) in
        n
        ∙ ap (λ t. t ++ f (get_or xs i d)) (m ∙ e)
        ∙ append_assoc before (joined (take i xs)) (f (get_or xs i d))
        ∙ ap (λ t. before ++ t) (sym (ap joined (take_more xs i d h) ∙ p))

    pub joined_more : 0 < i → mid ≡ old ++ separator → new ≡ before ++ joined (take (i + 1) xs)
    joined_more k m =
        let p = push_more (take i xs) (get_or xs i d) (omega (arith, length-take-le i xs (omega arith))) in
        n
        ∙ ap (λ t. t ++ f (get_or xs i d)) (m ∙ ap (λ t. t ++ separator) e ∙ append_assoc before (joined (take i xs)) separator)
        ∙ append_assoc before (joined (take i xs) ++ separator) (f (get_or xs i d))
        ∙ ap (λ t. before ++ t) (sym (ap joined (take_more xs i d h) ∙ p))

pub length_row : (k n : ℕ) → length (row k n) ≡ k
length_row k n = length-map-range_with_len _ 0 k

encode_digit : (b : Bool) → encode (digit b) ≡ digit b ∷ []
unfolding encode
encode_digit true = refl
encode_digit false = refl

-- one digit more
pub digits_step : (value : ℕ → Bool) (i : ℕ) (before old new : List ℕ) (c : ℕ) → old ≡ before ++ map (λ n. digit (value n)) (range_with_len 0 i) → c ≡ digit (value i) → new ≡ old ++ encode c → new ≡ before ++ map (λ n. digit (value n)) (range_with_len 0 (i + 1))
digits_step value i before old new c e d n =
    n
    ∙ ap₂ (λ t k. t ++ encode k) e d
    ∙ ap (λ t. (before ++ map (λ n. digit (value n)) (range_with_len 0 i)) ++ t) (encode_digit (value i))
    ∙ append_assoc before (map (λ n. digit (value n)) (range_with_len 0 i)) (digit (value i) ∷ [])
    ∙ ap (λ t. before ++ t) (sym (map-range_with_len_more (λ n. digit (value n)) 0 i i (omega arith)))

encode_blank : encode 32 ≡ 32 ∷ []
unfolding encode
encode_blank = refl

-- the parts of a line
pub line_is : (code count truth patterns start more spaced end : List ℕ) → start ≡ code ++ (32 ∷ (count ++ (32 ∷ []))) → more ≡ start ++ truth → spaced ≡ more ++ encode 32 → end ≡ spaced ++ patterns →
    end ≡ code ++ codes " " ++ count ++ codes " " ++ truth ++ codes " " ++ patterns
line_is code count truth patterns start more spaced end s m b e =
    e
    ∙ ap (λ t. t ++ patterns) (b ∙ ap₂ (λ t u. t ++ u) (m ∙ ap (λ t. t ++ truth) (s ∙ begin)) encode_blank)
  where
    begin : code ++ (32 ∷ (count ++ (32 ∷ []))) ≡ code ++ codes " " ++ count ++ codes " "
    begin = sym (append_assoc (code ++ codes " ") count (32 ∷ []) ∙ append_assoc code (32 ∷ []) (count ++ (32 ∷ [])))
