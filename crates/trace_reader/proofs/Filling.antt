-- One more call of a source, while a piece is filled.
use Rattle.std.proofs.Common.{◌≡◌, ℕ, ◌+◌, ◌-◌, ◌≤◌, ◌<◌, List, ◌++◌, length, get_or, take, drop, Option, Some, None, IfSome, refl, sym, ap, ◌∙◌, subst, false, true, inr, length-append, append_assoc, arith}
use Rattle.std.proofs.lemmas.List.{take-append-drop, take-append-le, length-take-le, take_all}
use Rattle.std.proofs.Math.Seq.{take-append-add, take-append_seam}
use borrow.Rule.Slice.PartMut.{put_mid, post_of}
use Rattle.std.proofs.lemmas.Slice.Eq.{slice_eq-Decides}
use Rattle.std.proofs.lemmas.Bool.Decides.{Decides-eqb}
use Rattle.std.proofs.Math.Dec.{eqb}
use lib.Pointwise.{pointwise}
use Rattle.recon_disk.specs.Outside.{Gives}
use Rattle.std.proofs.lemmas.List.Elements.{All-from_get_or}
use Rattle.trace_reader.specs.declared.fault.TraceFault.TheVariants.{BadHeader}
use Rattle.trace_reader.specs.Trace.{IsBytes, HeaderEnds, header_bytes, Fault}
use Rattle.trace_reader.specs.Reading.{TakesWith}
use Rattle.trace_reader.specs.Pieces.{Takes, TakesBytes}

take-seam : (a b : List ℕ) (m n : ℕ) → length a ≡ m → take (m + n) (a ++ b) ≡ a ++ take n b
take-seam a b m n e = ap (λ (k : ℕ). take (k + n) (a ++ b)) (sym e) ∙ take-append-add a b n

take-put_mid : (done n : ℕ) (piece into : List ℕ) → done ≤ length piece → length into ≡ length piece - done → n ≤ length into
    → take (done + n) (put_mid done (length piece - done) piece into) ≡ take done piece ++ take n into
take-put_mid done n piece into h e k =
    let size = length-take-le done piece h in
    take-seam (take done piece) _ done n size
    ∙ ap (λ (r : List ℕ). take done piece ++ r) (take-append-le n into (post_of done (length piece - done) piece) k)

told_more : (bytes : List ℕ) (old new : Option (List ℕ)) (done n : ℕ) (piece into : List ℕ)
    → done ≤ length piece → length into ≡ length piece - done → n ≤ length into
    → Takes (take done piece) bytes old → Gives n into old new
    → Takes (take (done + n) (put_mid done (length piece - done) piece into)) bytes new
told_more bytes old new done n piece into h e k t given =
    let P : Option (List ℕ) → Type 0 = λ o. Gives n into o new in
    let told : Gives n into (Some t.rest) new = subst P t.left given in
    record {
      rest = drop n t.rest;
      parts =
          t.parts
          ∙ ap (λ (r : List ℕ). take done piece ++ r) (sym (take-append-drop n t.rest))
          ∙ ap (λ (r : List ℕ). take done piece ++ (r ++ drop n t.rest)) (sym told.1)
          ∙ sym (append_assoc (take done piece) (take n into) (drop n t.rest))
          ∙ ap (λ (r : List ℕ). r ++ drop n t.rest) (sym (take-put_mid done n piece into h e k));
      left = told.2;
    }

pub fill_more : (start old new : Option (List ℕ)) (done n : ℕ) (piece into : List ℕ)
    → done ≤ length piece → length into ≡ length piece - done → n ≤ length into
    → IfSome start (λ bytes. Takes (take done piece) bytes old) → Gives n into old new
    → IfSome start (λ bytes. Takes (take (done + n) (put_mid done (length piece - done) piece into)) bytes new)
fill_more None old new done n piece into h e k t given = tt
fill_more (Some bytes) old new done n piece into h e k t given =
    told_more bytes old new done n piece into h e k t given

pub untold_more : (start old new : Option (List ℕ)) (n : ℕ) (into : List ℕ)
    → (start ≡ None → old ≡ None) → Gives n into old new → start ≡ None → new ≡ None
untold_more start old new n into h given e =
    let P : Option (List ℕ) → Type 0 = λ o. Gives n into o new in
    subst P (h e) given

-- the items of a slice of bytes are bytes
pub are_bytes : (xs : List ℕ) → ((i : ℕ) → get_or xs i 0 < 256) → IsBytes xs
are_bytes xs h = All-from_get_or (λ b. b < 256) xs 0 (λ i b. h i)

-- the bytes of a write, held
pub bytes_read : (start after : Option (List ℕ)) (len n : ℕ) (piece items held : List ℕ)
    → held ≡ take n (piece ++ drop (length piece) items) → n ≡ length piece → length piece ≡ len → IsBytes piece
    → IfSome start (λ bytes. Takes piece bytes after) → IfSome start (λ bytes. TakesBytes len held bytes after)
bytes_read None after len n piece items held e k size lawful t = tt
bytes_read (Some bytes) after len n piece items held e k size lawful t =
    let same : held ≡ piece = e ∙ ap (λ (m : ℕ). take m (piece ++ drop (length piece) items)) k ∙ take-append_seam piece (drop (length piece) items) in
    let P : List ℕ → Type 0 = λ h. TakesBytes len h bytes after in
    subst P (sym same) (record { takes = t; size = size; lawful = lawful })

other_front : (piece bytes : List ℕ) (after : Option (List ℕ)) → length piece ≡ 16 → false ≡ pointwise eqb piece header_bytes
    → Takes piece bytes after → TakesWith (λ b. HeaderEnds b (Fault BadHeader 0)) bytes after
other_front piece bytes after size differs t =
    let d = slice_eq-Decides {E = eqb} Decides-eqb piece header_bytes false differs in
    let first : take 16 bytes ≡ piece =
    ap (take 16) t.parts ∙ ap (λ (m : ℕ). take m (piece ++ t.rest)) (sym size) ∙ take-append_seam piece t.rest in
    let all : length bytes ≡ length piece + length t.rest = ap length t.parts ∙ length-append piece t.rest in
    let alone : take 16 piece ≡ piece = take_all 16 piece (omega arith) in
    record {
      taken = piece;
      rest = t.rest;
      parts = t.parts;
      left = t.left;
      of_all = inr (omega arith, λ e. let q : false ≡ true = d.1 (sym first ∙ e) in cc, refl);
      of_taken = inr (omega arith, λ e. let q : false ≡ true = d.1 (sym alone ∙ e) in cc, refl);
    }

-- another header was taken
pub other_header : (start after : Option (List ℕ)) (piece : List ℕ) → length piece ≡ 16 → false ≡ pointwise eqb piece header_bytes
    → IfSome start (λ bytes. Takes piece bytes after) → IfSome start (λ bytes. TakesWith (λ b. HeaderEnds b (Fault BadHeader 0)) bytes after)
other_header None after piece size differs t = tt
other_header (Some bytes) after piece size differs t = other_front piece bytes after size differs t
