-- The words of a form say all that it is asked for.
use Rattle.std.proofs.Common.{◌≡◌, ℕ, List, [], ◌∷◌, codes, length, get_or, Option, Some, None, MatchOption, refl, sym, ap, ◌∙◌, subst, arith}
use Rattle.recon_cli.specs.declared.words.Form.{Form}
use Rattle.recon_cli.specs.declared.words.Form.TheVariants.{Check, Replay, Make}
use Rattle.recon_cli.specs.declared.lines.Style.{Style}
use Rattle.recon_cli.specs.declared.lines.Style.TheVariants.{Text, Json}
use Rattle.recon_cli.specs.Words.{AreSeedAndCommits, IsForm, IsNoForm}

-- how a replay's lines are printed
same_style : (words : List (List ℕ)) (a b : Style) → IsForm (Replay a) words → IsForm (Replay b) words → a ≡ b
same_style words Text Text h k = refl
same_style words Text Json h k = let two = ap length h.1 in let three = ap length k.1 in absurd (omega arith)
same_style words Json Text h k = let three = ap length h.1 in let two = ap length k.1 in absurd (omega arith)
same_style words Json Json h k = refl

pub one_style : (words : List (List ℕ)) (form : Form) (a b : Style) → form ≡ Replay a → IsForm form words → IsForm (Replay b) words → a ≡ b
one_style words form a b is h k = same_style words a b (subst (λ f. IsForm f words) is h) k

-- the words of a make say what it is asked for
pub one_make : (words : List (List ℕ)) (first second image : List ℕ) → words ≡ codes "make" ∷ first ∷ second ∷ image ∷ [] → ((seed commits : ℕ) → ¬ AreSeedAndCommits first second seed commits) → IsNoForm words
one_make words first second image is none Check h = let four = ap length is in let two = ap length h.1 in absurd (omega arith)
one_make words first second image is none (Replay Text) h = let four = ap length is in let two = ap length h.1 in absurd (omega arith)
one_make words first second image is none (Replay Json) h = let four = ap length is in let three = ap length h.1 in absurd (omega arith)
one_make words first second image is none (Make seed commits) h =
    let same = sym h.3 ∙ is in
    let a : h.0 ≡ first = ap (λ ws. get_or ws 1 []) same in
    let b : h.1 ≡ second = ap (λ ws. get_or ws 2 []) same in
    none seed commits (subst (λ w. AreSeedAndCommits first w seed commits) b (subst (λ w. AreSeedAndCommits w h.1 seed commits) a h.4))

-- the same of the same words
pub asked_of : (first first' second second' : List ℕ) (seed commits : ℕ) → first ≡ first' → second ≡ second' → AreSeedAndCommits first second seed commits → AreSeedAndCommits first' second' seed commits
asked_of first first' second second' seed commits a b h = subst (λ w. AreSeedAndCommits w second' seed commits) a (subst (λ w. AreSeedAndCommits first w seed commits) b h)

pub no_form : (o : Option Form) (words : List (List ℕ)) → o ≡ None → IsNoForm words → MatchOption o (IsNoForm words) (λ form. IsForm form words)
no_form None words is h = h
no_form (Some form) words is h = absurd (let k : Some form ≡ None = is in cc)
