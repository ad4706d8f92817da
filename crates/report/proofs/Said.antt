-- What a format printed, as the text of a line.
use Rattle.std.proofs.Common.{◌≡◌, ℕ, List, [], ◌∷◌, Result, Ok, Err, IfOk, refl, ◌∙◌}
use Rattle.verdict.specs.Letter.{letter_of}
use Rattle.verdict.specs.declared.finding.Family.{Family}
use Rattle.verdict.specs.declared.finding.Family.TheVariants.{S, U, N, I, M, X, A, D, F, L}
use lib.Utf8.{encode}

pub said : {T E : Type 0} (f : T → List ℕ) (r : Result T E) (bytes text : List ℕ)
    → IfOk r (λ s. f s ≡ bytes) → bytes ≡ text → IfOk r (λ s. f s ≡ text)
said f (Ok s) bytes text h e = h ∙ e
said f (Err x) bytes text h e = tt

-- a family's letter is printed as one byte
pub letter_printed : (f : Family) → encode (letter_of f) ≡ letter_of f ∷ []
unfolding encode
letter_printed S = refl
letter_printed U = refl
letter_printed N = refl
letter_printed I = refl
letter_printed M = refl
letter_printed X = refl
letter_printed A = refl
letter_printed D = refl
letter_printed F = refl
letter_printed L = refl
