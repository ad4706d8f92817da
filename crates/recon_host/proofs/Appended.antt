-- Bytes that were appended one after the other.
use Rattle.std.proofs.Common.{◌≡◌, ℕ, ◌+◌, List, ◌++◌, take, drop, ap, sym, ◌∙◌, append_assoc}
use Rattle.std.specs.Prelude.{Option, Some, None}
use Rattle.std.specs.Io.KnownBytes.{Appends}
use Rattle.std.proofs.Math.Seq.{take-add}

both : (old mid new : Option (List ℕ)) (xs ys zs : List ℕ) → Appends old mid xs → Appends mid new ys → zs ≡ xs ++ ys → Appends old new zs
both None mid new xs ys zs h g e = tt
both (Some a) None new xs ys zs h g e = absurd h
both (Some a) (Some b) None xs ys zs h g e = absurd g
both (Some a) (Some b) (Some c) xs ys zs h g e = g ∙ ap (λ l. l ++ ys) h ∙ append_assoc a xs ys ∙ ap (λ l. a ++ l) (sym e)

-- the first bytes of a list, and then some of the others
pub appended_more : (old mid new : Option (List ℕ)) (done n : ℕ) (from rest : List ℕ) → Appends old mid (take done from) → Appends mid new (take n rest) → rest ≡ drop done from → Appends old new (take (done + n) from)
appended_more old mid new done n from rest h g e =
    both old mid new (take done from) (take n rest) (take (done + n) from) h g (take-add done n from ∙ ap (λ l. take done from ++ take n l) (sym e))
