-- The words of the command line, behind the program's name. They are compared byte for byte.
use Rattle.std.specs.Prelude.{ℕ, ◌≡◌, ◌≤◌, List, [], ◌∷◌, codes}
use Rattle.std.specs.Str.Parse.{IsNumeral, digits_value}
use Rattle.recon_cli.specs.declared.words.Form.{Form}
use Rattle.recon_cli.specs.declared.words.Form.TheVariants.{Check, Replay, Make}
use Rattle.recon_cli.specs.declared.lines.Style.TheVariants.{Text, Json}

-- the word is one ASCII digit or more and nothing else, and in decimal the digits spell this number
abbrev pub Spells : List ℕ → ℕ → Type 0
Spells word n = IsNumeral 10 word × (digits_value 10 word ≡ n)

-- SEED and COMMITS of a make: a seed of 64 bits, and 1 to 200 commits
pub record AreSeedAndCommits (first second : List ℕ) (seed commits : ℕ) : Type 0 where
  pub seed_is : Spells first seed
  pub seed_most : seed ≤ 18446744073709551615
  pub commits_are : Spells second commits
  pub commits_least : 1 ≤ commits
  pub commits_most : commits ≤ 200

-- the words of each form: `check IMAGE`, `replay IMAGE`, `replay --json IMAGE` and `make SEED COMMITS IMAGE`,
-- where IMAGE is any word
abbrev pub IsForm : Form → List (List ℕ) → Type 0
IsForm Check words = (image : List ℕ) × (words ≡ codes "check" ∷ image ∷ [])
IsForm (Replay Text) words = (image : List ℕ) × (words ≡ codes "replay" ∷ image ∷ [])
IsForm (Replay Json) words =
    (image : List ℕ) × (words ≡ codes "replay" ∷ codes "--json" ∷ image ∷ [])
IsForm (Make seed commits) words =
    (first : List ℕ) × (second : List ℕ) × (image : List ℕ)
    × (words ≡ codes "make" ∷ first ∷ second ∷ image ∷ [])
    × AreSeedAndCommits first second seed commits

-- the words ask for a make of some seed and commits
abbrev pub AsksToMake : List (List ℕ) → Type 0
AsksToMake words = (seed : ℕ) × (commits : ℕ) × IsForm (Make seed commits) words

-- the words are none of the forms
abbrev pub IsNoForm : List (List ℕ) → Type 0
IsNoForm words = (form : Form) → ¬ IsForm form words
