-- What goes out to a disk that may not tell its bytes.
use Rattle.std.proofs.Common.{◌≡◌, ℕ, ◌+◌, ◌-◌, ◌<◌, ◌≤◌, ◌⊎◌, ◌↔◌, inl, inr, min, Bool, true, false, List, [], ◌∷◌, get_or, length, take, drop, IsTrue, IsSome, Option, Some, None, IfSome, option_map, Result, Ok, Err, IsErr, refl, sym, ap, ◌∙◌, arith, subst}
use Rattle.std.specs.Option.{IsSomeAnd, unwrap_or}
use Rattle.std.specs.Ordering.{nat_cmp}
use Rattle.std.specs.FinMap.{FinMap, get}
use Rattle.std.proofs.lemmas.Bool.{cases_lt}
use Rattle.std.proofs.lemmas.List.{length-drop, length-take-le, get_or_past}
use Rattle.verdict.specs.Image.{written}
use Rattle.recon_disk.specs.declared.disk.Disk.{Ghosts}
use Rattle.recon_disk.specs.Outside.{MayBeWritten, counted}
use Rattle.write_cache.specs.Cache.{overlaid}
use Rattle.write_cache.specs.Pieces.{Piece, map_of, AreApart}
use Rattle.write_cache.proofs.CacheLaws.{length-overlaid, get-overlaid}
use Rattle.recon_core.specs.Stops.{IsPartlySent}
use Rattle.recon_core.specs.Standing.{IsBelow}
use Rattle.recon_core.specs.Sent.{IsAllOrPart, IsPlaceOf, LetsThrough, StaysButForPiece, with_place_of, sent_piece}
use Rattle.recon_disk.specs.Sending.{StaysOutside}
use Rattle.recon_core.proofs.Places.{place_same, place_last, length-with_place_of, get-with_place_of_in, get-with_place_of_out, inside_place, outside_place, where_is}
use Rattle.recon_disk.proofs.Sending.{outside_then, outside_wider, written_outside}
use Rattle.recon_core.proofs.Law.{sent_all, some_is, length-sent_piece, sent_piece-out, sent_piece-place, first_inside, get-map_of_rest, get-map_of_first, in_range, out_of_range, ranged, all_sent}

-- a piece went out, or one of its two runs failed
pub piece_sent : (first mid last : Option (List ℕ)) (at : ℕ) (bytes front rest : List ℕ) (spot : ℕ)
    → front ≡ take (min (65536 - at) (length bytes)) bytes → rest ≡ drop (min (69632 - at) (length bytes)) bytes → spot ≡ at + min (69632 - at) (length bytes)
    → mid ≡ option_map (λ image. written image at front) first → last ≡ option_map (λ image. written image spot rest) mid
    → last ≡ option_map (λ image. sent_piece image at bytes) first
unfolding sent_piece
piece_sent None mid last at bytes front rest spot f r s m l = l ∙ ap (option_map (λ image. written image spot rest)) m
piece_sent (Some image) mid last at bytes front rest spot f r s m l =
    l ∙ ap (option_map (λ i. written i spot rest)) m
    ∙ ap (λ p. Some (written (written image at p) spot rest)) f
    ∙ ap (λ p. Some (written (written image at (take (min (65536 - at) (length bytes)) bytes)) spot p)) r
    ∙ ap (λ p. Some (written (written image at (take (min (65536 - at) (length bytes)) bytes)) p (drop (min (69632 - at) (length bytes)) bytes))) s

front_left : (image : List ℕ) (last : Option (List ℕ)) (at n b : ℕ) → b ≤ n → b ≤ 65536 - at → IsSomeAnd last (StaysOutside at b image) → IsSomeAnd last (StaysButForPiece at n image)
front_left image None at n b few low h = h
front_left image (Some left) at n b few low h = record {
  outside = outside_wider at n at b image left (omega arith) (omega arith) h;
  place = λ i from to. h.others i (elim (cases_lt i at) [ inl l ↦ inl l | inr g ↦ inr (omega arith) ]);
}

pub front_fails : (first last : Option (List ℕ)) (at : ℕ) (bytes front : List ℕ) → front ≡ take (min (65536 - at) (length bytes)) bytes
    → IfSome first (λ image. IsSomeAnd last (StaysOutside at (length front) image))
    → IfSome first (λ image. IsSomeAnd last (StaysButForPiece at (length bytes) image))
front_fails None last at bytes front f h = tt
front_fails (Some image) last at bytes front f h =
    let n : length front ≡ min (65536 - at) (length bytes) = ap length f ∙ length-take-le (min (65536 - at) (length bytes)) bytes (omega arith) in
    front_left image last at (length bytes) (length front) (omega arith) (omega arith) h

rest_left : (image mid : List ℕ) (last : Option (List ℕ)) (at n b h spot : ℕ) → b ≤ n → b ≤ 65536 - at → h ≡ min (69632 - at) n → spot ≡ at + h → StaysOutside at b image mid
    → IsSomeAnd last (StaysOutside spot (n - h) mid) → IsSomeAnd last (StaysButForPiece at n image)
rest_left image mid None at n b h spot few low is s a left = left
rest_left image mid (Some end) at n b h spot few low is s a left = record {
  outside = outside_then at n image mid end (outside_wider at n at b image mid (omega arith) (omega arith) a) (outside_wider at n spot (n - h) mid end (omega arith) (omega arith) left);
  place = λ i from to. left.others i (elim (cases_lt i spot) [ inl l ↦ inl l | inr g ↦ inr (omega arith) ])
      ∙ a.others i (elim (cases_lt i at) [ inl l ↦ inl l | inr g ↦ inr (omega arith) ]);
}

pub rest_fails : (first mid last : Option (List ℕ)) (len at : ℕ) (bytes front rest : List ℕ) (spot : ℕ) → IfSome first (λ image. length image ≡ len) → at + length bytes ≤ len
    → front ≡ take (min (65536 - at) (length bytes)) bytes → rest ≡ drop (min (69632 - at) (length bytes)) bytes → spot ≡ at + min (69632 - at) (length bytes)
    → mid ≡ option_map (λ image. written image at front) first
    → IfSome mid (λ image. IsSomeAnd last (StaysOutside spot (length rest) image))
    → IfSome first (λ image. IsSomeAnd last (StaysButForPiece at (length bytes) image))
rest_fails None mid last len at bytes front rest spot size fits f r s m h = tt
rest_fails (Some image) mid last len at bytes front rest spot size fits f r s m h =
    let n : length front ≡ min (65536 - at) (length bytes) = ap length f ∙ length-take-le (min (65536 - at) (length bytes)) bytes (omega arith) in
    let k : length rest ≡ length bytes - min (69632 - at) (length bytes) = ap length r ∙ length-drop (min (69632 - at) (length bytes)) bytes in
    let here : IsSomeAnd last (StaysOutside spot (length rest) (written image at front)) = subst (λ o. IfSome o (λ i. IsSomeAnd last (StaysOutside spot (length rest) i))) m h in
    rest_left image (written image at front) last at (length bytes) (length front) (min (69632 - at) (length bytes)) spot (omega arith) (omega arith) refl s
    (written_outside image at front (omega arith))
    (subst (λ j. IsSomeAnd last (StaysOutside spot j (written image at front))) k here)

-- How far the pieces of a map have gone out: those that are left lie apart and are of the map, they bring the disk's
-- bytes to the whole, and so far a part of the map went out.
pub record IsSending (m : FinMap nat_cmp ℕ) (first now : Option (List ℕ)) (left : List Piece) : Type 0 where
  pub apart : AreApart 0 left
  pub of_map : (i : ℕ) → get m i ≡ None → get (map_of left) i ≡ None
  pub whole : option_map (sent_all left) now ≡ option_map (λ image. with_place_of image (overlaid m 0 image)) first
  pub part : IfSome first (λ image. IsSomeAnd now (IsPartlySent m image))

apart_from : (low from : ℕ) (pieces : List Piece) → low ≤ from → AreApart from pieces → AreApart low pieces
apart_from low from [] h apart = tt
apart_from low from (p ∷ ps) h apart = let a : from ≤ p.at = apart.0 in (omega arith, apart.1, apart.2)

some_or_none : (o : Option ℕ) → (IsSome o) ⊎ (o ≡ None)
some_or_none None = inr refl
some_or_none (Some x) = inl refl

not_none : (o : Option ℕ) → IsSome o → o ≡ None → ⊥
not_none None h e = cc
not_none (Some x) h e = cc

-- what is left lies below the end of the disk as the map does
pub left_below : (end : ℕ) (m : FinMap nat_cmp ℕ) (left : List Piece) → ((i : ℕ) → get m i ≡ None → get (map_of left) i ≡ None) → IsBelow end m → IsBelow end (map_of left)
left_below end m left of_map below i some = elim (some_or_none (get m i)) [
  | inl here ↦ below i here
  | inr none ↦ absurd (not_none (get (map_of left) i) some (of_map i none))
]

pub nothing_sent : (m : FinMap nat_cmp ℕ) (image : List ℕ) → IsPartlySent m image image
nothing_sent m image = record { same_length = refl; place = λ i l h. refl; others = λ i n. refl }

pub begin_sending : (m : FinMap nat_cmp ℕ) (first : Option (List ℕ)) (len : ℕ) (pieces : List Piece) → IfSome first (λ image. length image ≡ len) → 69632 ≤ len → IsBelow len m
    → AreApart 0 pieces → map_of pieces ≡ m → IsSending m first first pieces
begin_sending m None len pieces size long below apart whole = record { apart = apart; of_map = λ i h. ap (λ k. get k i) whole ∙ h; whole = refl; part = tt }
begin_sending m (Some image) len pieces size long below apart whole = record {
  apart = apart;
  of_map = λ i h. ap (λ k. get k i) whole ∙ h;
  whole = ap Some (all_sent 0 pieces image apart (subst (λ k. IsBelow k (map_of pieces)) (sym size) (subst (IsBelow len) (sym whole) below)) (omega arith)
      ∙ ap (λ k. with_place_of image (overlaid k 0 image)) whole);
  part = nothing_sent m image;
}

-- the next piece lies on the disk
pub piece_inside : (m : FinMap nat_cmp ℕ) (first now : Option (List ℕ)) (len : ℕ) (p : Piece) (left : List Piece) → IsBelow len m → IsSending m first now (p ∷ left) → p.at + length p.bytes ≤ len
piece_inside m first now len p left below so = first_inside len 0 p left so.apart (left_below len m (p ∷ left) so.of_map below)

-- each of its bytes waits
pub piece_waits : (m : FinMap nat_cmp ℕ) (first now : Option (List ℕ)) (p : Piece) (left : List Piece) → IsSending m first now (p ∷ left)
    → (i : ℕ) → p.at ≤ i → i < p.at + length p.bytes → IsSome (get m i)
piece_waits m first now p left so i low high = elim (some_or_none (get m i)) [
  | inl here ↦ here
  | inr none ↦ absurd (not_none (get (map_of (p ∷ left)) i) (some_is (get (map_of (p ∷ left)) i) _ (get-map_of_first p left i low high)) (so.of_map i none))
]

of_rest : (m : FinMap nat_cmp ℕ) (p : Piece) (left : List Piece) → ((i : ℕ) → get m i ≡ None → get (map_of (p ∷ left)) i ≡ None) → (i : ℕ) → get m i ≡ None
    → ((i < p.at) ⊎ (p.at + length p.bytes ≤ i)) × (get (map_of left) i ≡ None)
of_rest m p left of_map i none = elim (ranged p.at (length p.bytes) i) [
  | in_range low high ↦ absurd (not_none (get (map_of (p ∷ left)) i) (some_is (get (map_of (p ∷ left)) i) _ (get-map_of_first p left i low high)) (of_map i none))
  | out_of_range out ↦ (out, sym (get-map_of_rest p left i out) ∙ of_map i none)
]

part_more : (m : FinMap nat_cmp ℕ) (p : Piece) (left : List Piece) (image now last : List ℕ) → ((i : ℕ) → get m i ≡ None → get (map_of (p ∷ left)) i ≡ None)
    → IsPartlySent m image now → StaysButForPiece p.at (length p.bytes) now last → IsPartlySent m image last
part_more m p left image now last of_map part stays = record {
  same_length = stays.outside.same_length ∙ part.same_length;
  place = λ i low high. stays.place i low high ∙ part.place i low high;
  others = λ i none. stays.outside.others i (of_rest m p left of_map i none).0 ∙ part.others i none;
}

piece_stays : (image : List ℕ) (at : ℕ) (bytes : List ℕ) → at + length bytes ≤ length image → StaysButForPiece at (length bytes) image (sent_piece image at bytes)
piece_stays image at bytes fits = record {
  outside = record { same_length = length-sent_piece image at bytes fits; others = λ i out. sent_piece-out image at bytes i fits out };
  place = λ i low high. sent_piece-place image at bytes i fits low high;
}

sent_one : (p : Piece) (left : List Piece) (now last : Option (List ℕ)) → last ≡ option_map (λ image. sent_piece image p.at p.bytes) now
    → option_map (sent_all left) last ≡ option_map (sent_all (p ∷ left)) now
unfolding sent_all
sent_one p left None last h = ap (option_map (sent_all left)) h
sent_one p left (Some image) last h = ap (option_map (sent_all left)) h

part_sent : (m : FinMap nat_cmp ℕ) (p : Piece) (left : List Piece) (image : List ℕ) (now last : Option (List ℕ)) → ((i : ℕ) → get m i ≡ None → get (map_of (p ∷ left)) i ≡ None)
    → p.at + length p.bytes ≤ length image → IsSomeAnd now (IsPartlySent m image) → last ≡ option_map (λ i. sent_piece i p.at p.bytes) now → IsSomeAnd last (IsPartlySent m image)
part_sent m p left image None last of_map fits part h = absurd part
part_sent m p left image (Some now) last of_map fits part h =
    let n : length now ≡ length image = part.same_length in
    subst (λ o. IsSomeAnd o (IsPartlySent m image)) (sym h)
    (part_more m p left image now (sent_piece now p.at p.bytes) of_map part (piece_stays now p.at p.bytes (omega arith)))

-- one more piece is out
pub more_sent : (m : FinMap nat_cmp ℕ) (first now last : Option (List ℕ)) (len : ℕ) (p : Piece) (left : List Piece) → IfSome first (λ image. length image ≡ len) → IsBelow len m
    → IsSending m first now (p ∷ left) → last ≡ option_map (λ image. sent_piece image p.at p.bytes) now → IsSending m first last left
more_sent m first now last len p left size below so h =
    let fits : p.at + length p.bytes ≤ len = piece_inside m first now len p left below so in
    record {
      apart = apart_from 0 (p.at + length p.bytes + 1) left (omega arith) so.apart.2;
      of_map = λ i none. (of_rest m p left so.of_map i none).1;
      whole = sent_one p left now last h ∙ so.whole;
      part = elim first as (λ o. IfSome o (λ image. length image ≡ len) → IfSome o (λ image. IsSomeAnd now (IsPartlySent m image)) → IfSome o (λ image. IsSomeAnd last (IsPartlySent m image))) [
        | None ↦ λ a b. tt
        | Some image ↦ λ a b. part_sent m p left image now last so.of_map (omega arith) b h
      ] size so.part;
    }

-- no piece is left
pub sent_whole : (m : FinMap nat_cmp ℕ) (first now : Option (List ℕ)) (left : List Piece) → left ≡ [] → IsSending m first now left
    → now ≡ option_map (λ image. with_place_of image (overlaid m 0 image)) first
unfolding sent_all
sent_whole m first None left none so = ap (λ l. option_map (sent_all l) None) none ∙ so.whole
sent_whole m first (Some image) left none so = ap (λ l. option_map (sent_all l) (Some image)) (sym none) ∙ so.whole

part_left : (m : FinMap nat_cmp ℕ) (p : Piece) (left : List Piece) (image : List ℕ) (now last : Option (List ℕ)) → ((i : ℕ) → get m i ≡ None → get (map_of (p ∷ left)) i ≡ None)
    → IsSomeAnd now (IsPartlySent m image) → IfSome now (λ i. IsSomeAnd last (StaysButForPiece p.at (length p.bytes) i)) → IsSomeAnd last (IsPartlySent m image)
part_left m p left image None last of_map part h = absurd part
part_left m p left image (Some now) None of_map part h = h
part_left m p left image (Some now) (Some last) of_map part h = part_more m p left image now last of_map part h

-- a call of a piece failed
pub piece_fails : (m : FinMap nat_cmp ℕ) (first now last : Option (List ℕ)) (p : Piece) (left : List Piece) → IsSending m first now (p ∷ left)
    → IfSome now (λ image. IsSomeAnd last (StaysButForPiece p.at (length p.bytes) image)) → IfSome first (λ image. IsSomeAnd last (IsPartlySent m image))
piece_fails m first now last p left so h =
    elim first as (λ o. IfSome o (λ image. IsSomeAnd now (IsPartlySent m image)) → IfSome o (λ image. IsSomeAnd last (IsPartlySent m image))) [
      | None ↦ λ a. tt
      | Some image ↦ λ a. part_left m p left image now last so.of_map a h
    ] so.part

-- where nothing meets the superblock place, what went out is all
pub told_settled : (first last : Option (List ℕ)) (len : ℕ) (m : FinMap nat_cmp ℕ) (place : List ℕ) → IfSome first (λ image. length image ≡ len) → 69632 ≤ len
    → ((i : ℕ) → 65536 ≤ i → i < 69632 → get m i ≡ None)
    → last ≡ option_map (λ image. with_place_of image (overlaid m 0 image)) first
    → IfSome first (λ image. IsPlaceOf m place image → last ≡ Some (overlaid m 0 image))
told_settled None last len m place size long apart l = tt
told_settled (Some image) last len m place size long apart l = λ right.
    l ∙ ap Some (place_same image (overlaid m 0 image) (length-overlaid m 0 image) (omega arith) (λ i low high.
    get-overlaid m 0 image i (omega arith) ∙ ap (λ o. unwrap_or o (get_or image i 0)) (ap (get m) (omega arith) ∙ apart i low high)))

-- and with the whole place behind it, all of a commit
commit_told : (m : FinMap nat_cmp ℕ) (image place : List ℕ) → 69632 ≤ length image → IsPlaceOf m place image
    → written (with_place_of image (overlaid m 0 image)) 65536 place ≡ overlaid m 0 image
commit_told m image place long right =
    ap (written (with_place_of image (overlaid m 0 image)) 65536) right
    ∙ place_last image (overlaid m 0 image) (length-overlaid m 0 image) (omega arith)

pub told_commit : (first mid last : Option (List ℕ)) (len : ℕ) (m : FinMap nat_cmp ℕ) (place : List ℕ) → IfSome first (λ image. length image ≡ len) → 69632 ≤ len
    → mid ≡ option_map (λ image. with_place_of image (overlaid m 0 image)) first
    → last ≡ option_map (λ image. written image 65536 place) mid
    → IfSome first (λ image. IsPlaceOf m place image → last ≡ Some (overlaid m 0 image))
told_commit None mid last len m place size long e l = tt
told_commit (Some image) mid last len m place size long e l = λ right.
    l ∙ ap (option_map (λ i. written i 65536 place)) e ∙ ap Some (commit_told m image place (omega arith) right)

-- where no byte waits, a laid-over image has its own
over_none : (m : FinMap nat_cmp ℕ) (image : List ℕ) (i : ℕ) → get m i ≡ None → get_or (overlaid m 0 image) i 0 ≡ get_or image i 0
over_none m image i none =
    let n : length (overlaid m 0 image) ≡ length image = length-overlaid m 0 image in
    elim (cases_lt i (length image)) [
      | inl inside ↦ get-overlaid m 0 image i inside ∙ ap (λ o. unwrap_or o (get_or image i 0)) (ap (get m) (omega arith) ∙ none)
      | inr past ↦ get_or_past (overlaid m 0 image) i 0 (omega arith) ∙ sym (get_or_past image i 0 past)
    ]

but_place : (m : FinMap nat_cmp ℕ) (image : List ℕ) → 69632 ≤ length image → IsPartlySent m image (with_place_of image (overlaid m 0 image))
but_place m image long =
    let n : length (overlaid m 0 image) ≡ length image = length-overlaid m 0 image in
    let k : length (with_place_of image (overlaid m 0 image)) ≡ length (overlaid m 0 image) = length-with_place_of image (overlaid m 0 image) (sym n) (omega arith) in
    record {
      same_length = k ∙ n;
      place = λ i low high. get-with_place_of_in image (overlaid m 0 image) i (sym n) (omega arith) low high;
      others = λ i none. elim (where_is i) [
        | inside_place low high ↦ get-with_place_of_in image (overlaid m 0 image) i (sym n) (omega arith) low high
        | outside_place w ↦ get-with_place_of_out image (overlaid m 0 image) i (sym n) (omega arith) w ∙ over_none m image i none
      ];
    }

-- what is left where a run failed, where all but the place went out, or all
pub left_part : (first last : Option (List ℕ)) (m : FinMap nat_cmp ℕ) (place : List ℕ) → IfSome first (λ image. IsSomeAnd last (IsPartlySent m image))
    → IfSome first (λ image. IsPlaceOf m place image → IsSomeAnd last (IsAllOrPart m image))
left_part None last m place h = tt
left_part (Some image) None m place h = λ right. h
left_part (Some image) (Some left) m place h = λ right. inr h

pub left_but_place : (first mid last : Option (List ℕ)) (len : ℕ) (m : FinMap nat_cmp ℕ) (place : List ℕ) → IfSome first (λ image. length image ≡ len) → 69632 ≤ len
    → mid ≡ option_map (λ image. with_place_of image (overlaid m 0 image)) first → last ≡ mid → IfSome first (λ image. IsPlaceOf m place image → IsSomeAnd last (IsAllOrPart m image))
left_but_place None mid last len m place size long e h = tt
left_but_place (Some image) mid last len m place size long e h = λ right. subst (λ o. IsSomeAnd o (IsAllOrPart m image)) (sym (h ∙ e)) (inr (but_place m image (omega arith)))

pub left_all : (first mid last : Option (List ℕ)) (m : FinMap nat_cmp ℕ) (place : List ℕ) → IfSome first (λ image. IsPlaceOf m place image → mid ≡ Some (overlaid m 0 image)) → last ≡ mid
    → IfSome first (λ image. IsPlaceOf m place image → IsSomeAnd last (IsAllOrPart m image))
left_all None mid last m place e h = tt
left_all (Some image) mid last m place e h = λ right. subst (λ o. IsSomeAnd o (IsAllOrPart m image)) (sym (h ∙ e right)) (inl refl)

-- a step that stops at a failed call
pub stops_through : {D T E : Type 0} (disk : Ghosts D) (old new : D) (m : FinMap nat_cmp ℕ) (place : List ℕ) (r : Result T E) → IsErr r
    → IfSome (disk.bytes old) (λ image. IsPlaceOf m place image → IsSomeAnd (disk.bytes new) (IsAllOrPart m image)) → disk.len new ≡ disk.len old
    → disk.faults old ≤ disk.faults new → counted (disk.faults old) ≤ disk.faults new → disk.reads new ≡ disk.reads old → LetsThrough disk old new m place r
stops_through disk old new m place (Ok x) err left len grows failed reads = absurd (cc)
stops_through disk old new m place (Err e) err left len grows failed reads =
    record { made = tt; left = left; len = len; cause = record { grows = grows; failed = failed; fine = tt }; reads = reads }

-- a flush behind what was made
pub made_too : (first mid last : Option (List ℕ)) (m : FinMap nat_cmp ℕ) (place : List ℕ) → IfSome first (λ image. IsPlaceOf m place image → mid ≡ Some (overlaid m 0 image)) → last ≡ mid
    → IfSome first (λ image. IsPlaceOf m place image → last ≡ Some (overlaid m 0 image))
made_too None mid last m place e h = tt
made_too (Some image) mid last m place e h = λ right. h ∙ e right

-- the write of the place failed: it wrote the whole place or nothing
place_left : (m : FinMap nat_cmp ℕ) (image mid place : List ℕ) (last : Option (List ℕ)) → length place ≡ 4096 → IsPartlySent m image mid → written mid 65536 place ≡ overlaid m 0 image
    → MayBeWritten (Some mid) 65536 place last → IsSomeAnd last (IsAllOrPart m image)
place_left m image mid place last size part all may =
    subst (λ o. IsSomeAnd o (IsAllOrPart m image)) (sym may.1) (elim (may.2.whole refl size) [
      | inl same ↦ inr (subst (IsPartlySent m image) (sym same) part)
      | inr whole ↦ inl (whole ∙ all)
    ])

pub place_fails : (first mid last : Option (List ℕ)) (len : ℕ) (m : FinMap nat_cmp ℕ) (place : List ℕ) → IfSome first (λ image. length image ≡ len) → 69632 ≤ len
    → length place ≡ 4096
    → mid ≡ option_map (λ image. with_place_of image (overlaid m 0 image)) first
    → MayBeWritten mid 65536 place last
    → IfSome first (λ image. IsPlaceOf m place image → IsSomeAnd last (IsAllOrPart m image))
place_fails None mid last len m place size long n e may = tt
place_fails (Some image) mid last len m place size long n e may = λ right.
    place_left m image (with_place_of image (overlaid m 0 image)) place last n (but_place m image (omega arith)) (commit_told m image place (omega arith) right)
    (subst (λ o. MayBeWritten o 65536 place last) e may)

none_or_some : (o : Option ℕ) → (IsSome o → o ≡ None) → o ≡ None
none_or_some None f = refl
none_or_some (Some x) f = f refl

no_true : (b : Bool) → b ≡ false → IsTrue b → ⊥
no_true true e h = cc
no_true false e h = cc

-- where no byte of a range waits, the map has none there
pub none_at : (m : FinMap nat_cmp ℕ) (at len : ℕ) (b : Bool) → IsTrue b ↔ ((i : ℕ) × (at ≤ i) × (i < at + len) × IsSome (get m i)) → b ≡ false
    → (i : ℕ) → at ≤ i → i < at + len → get m i ≡ None
none_at m at len b says f i low high = none_or_some (get m i) (λ some. absurd (no_true b f (says.1 (i, low, high, some))))
