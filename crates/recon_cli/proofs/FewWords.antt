-- A list of two, three or four words, by its words.
use Rattle.std.proofs.Common.{◌≡◌, ℕ, List, [], ◌∷◌, length, get_or, map, sym, ap, ◌∙◌, arith}

pub two_words : {A : Type 0} (f : A → List ℕ) (ws : List A) (word : List ℕ) (a : A) → length ws ≡ 2 → a ≡ get_or ws 0 a → f a ≡ word
    → (x : List ℕ) × (map f ws ≡ word ∷ x ∷ [])
two_words f [] word a n is e = absurd (omega arith)
two_words f (x ∷ []) word a n is e = absurd (omega arith)
two_words f (x ∷ y ∷ []) word a n is e = (f y, ap (λ w. w ∷ f y ∷ []) (ap f (sym is) ∙ e))
two_words f (x ∷ y ∷ z ∷ ws) word a n is e = absurd (omega arith)

pub three_words : {A : Type 0} (f : A → List ℕ) (ws : List A) (first second : List ℕ) (a b : A) → length ws ≡ 3 → a ≡ get_or ws 0 a → b ≡ get_or ws 1 b
    → f a ≡ first → f b ≡ second → (x : List ℕ) × (map f ws ≡ first ∷ second ∷ x ∷ [])
three_words f [] first second a b n is also e d = absurd (omega arith)
three_words f (x ∷ []) first second a b n is also e d = absurd (omega arith)
three_words f (x ∷ y ∷ []) first second a b n is also e d = absurd (omega arith)
three_words f (x ∷ y ∷ z ∷ []) first second a b n is also e d =
    (f z, ap (λ w. w ∷ f y ∷ f z ∷ []) (ap f (sym is) ∙ e) ∙ ap (λ w. first ∷ w ∷ f z ∷ []) (ap f (sym also) ∙ d))
three_words f (x ∷ y ∷ z ∷ v ∷ ws) first second a b n is also e d = absurd (omega arith)

pub four_words : {A : Type 0} (f : A → List ℕ) (ws : List A) (word : List ℕ) (a b c : A) → length ws ≡ 4 → a ≡ get_or ws 0 a → b ≡ get_or ws 1 b → c ≡ get_or ws 2 c
    → f a ≡ word → (x : List ℕ) × (map f ws ≡ word ∷ f b ∷ f c ∷ x ∷ [])
four_words f [] word a b c n is also third e = absurd (omega arith)
four_words f (x ∷ []) word a b c n is also third e = absurd (omega arith)
four_words f (x ∷ y ∷ []) word a b c n is also third e = absurd (omega arith)
four_words f (x ∷ y ∷ z ∷ []) word a b c n is also third e = absurd (omega arith)
four_words f (x ∷ y ∷ z ∷ v ∷ []) word a b c n is also third e =
    (f v, ap (λ w. w ∷ f y ∷ f z ∷ f v ∷ []) (ap f (sym is) ∙ e) ∙ ap (λ w. word ∷ w ∷ f z ∷ f v ∷ []) (ap f (sym also)) ∙ ap (λ w. word ∷ f b ∷ w ∷ f v ∷ []) (ap f (sym third)))
four_words f (x ∷ y ∷ z ∷ v ∷ u ∷ ws) word a b c n is also third e = absurd (omega arith)
