-- What is left of a list whose last element was taken.
use Rattle.std.specs.Prelude.{◌≡◌, List, [], ◌∷◌, ◌++◌, Option, Some, None}

abbrev pub IsLastTaken : {A : Type 0} → List A → List A → Option A → Type 0
IsLastTaken before after None = (before ≡ []) × (after ≡ [])
IsLastTaken before after (Some last) = before ≡ after ++ last ∷ []
