-- Chunks by start, one added, and what all of a list keep.
use Rattle.std.proofs.Common.{◌≡◌, ℕ, zero, suc, ◌+◌, ◌-◌, ◌<◌, ◌≤◌, Bool, true, cond, List, [], ◌∷◌, ◌++◌, length, take, drop, min, get_or, refl, ap, sym, subst, ◌∙◌, arith, false, ⊎_elim, ◌⊎◌}
use Rattle.std.specs.Prelude.{Option, Some, None, IsTrue}
use Rattle.std.specs.List.{All, insert, remove}
use Rattle.verdict.specs.Rules.{TableRow, first_failing, or_found}
use Rattle.verdict.proofs.Tables.{first_failing_joined}
use Rattle.verdict.specs.declared.finding.Finding.{Finding}
use Rattle.verdict.specs.declared.place.Chunk.{Chunk}
use Rattle.std.proofs.lemmas.Bool.{cases_lt, both_ways}
use Rattle.std.proofs.lemmas.List.{drop_more, same_lists, length-take, get_or-take, take-take, take-append-le, take_all}
use Rattle.std.proofs.lemmas.List.Edits.{length-insert, length-remove, get_or-remove_below, get_or-remove_above, get_or-insert_below, get_or-insert_above}
use Rattle.volume_items.specs.MapRules.{array_rows, rows_of_chunk, rows_by_start, map_finding}
use Rattle.volume_items.specs.ChunkOrder.{put_by_start, all_by_start, by_start}
use Rattle.chunk_map.specs.Order.{rank_by_start, AllFit, AllClear, IsClearOf, MeetsNone, Ascend, AreApart, AreFree, HasCopies, Has, IsCopyOf, IsOfOne, AreTurned, InOrder}
use Rattle.chunk_map.proofs.Ranks.{rank_low, insert_rank, insert_apart, by_start-ascends, by_start-permutes}
use Rattle.chunk_map.proofs.Meets.{has_more, put_clear, clear_at}
use Rattle.chunk_map.proofs.CopyLaws.{none_turned, none_there}
use Rattle.std.proofs.lemmas.List.Elements.{All-weaker, All-push, Contains-append_left, Contains-push}
use Rattle.std.proofs.lemmas.List.Sorted.{All-permutation}

all_by_start-push : (sorted chunks : List Chunk) (chunk : Chunk) → all_by_start sorted (chunks ++ chunk ∷ []) ≡ put_by_start chunk (all_by_start sorted chunks)
unfolding all_by_start
all_by_start-push sorted [] chunk = refl
all_by_start-push sorted (other ∷ others) chunk = all_by_start-push (put_by_start other sorted) others chunk

AllFit-push : (chunks : List Chunk) (chunk : Chunk) → AllFit chunks → chunk.start + chunk.length ≤ 18446744073709551615 → AllFit (chunks ++ chunk ∷ [])
AllFit-push [] chunk all fits = (fits, tt)
AllFit-push (other ∷ others) chunk all fits = (all.0, AllFit-push others chunk all.1 fits)

fits_at : (chunks : List Chunk) (i : ℕ) (d : Chunk) → AllFit chunks → i < length chunks → (get_or chunks i d).start + (get_or chunks i d).length ≤ 18446744073709551615
fits_at [] i d all h = absurd (omega arith)
fits_at (other ∷ others) zero d all h = all.0
fits_at (other ∷ others) (suc i) d all h = fits_at others i d all.1 (omega arith)

pub AllFit-get : (chunks items : List Chunk) (i : ℕ) (d : Chunk) → AllFit chunks → items ≡ chunks → i < length items → (get_or items i d).start + (get_or items i d).length ≤ 18446744073709551615
AllFit-get chunks items i d all same h = subst (λ cs. (get_or cs i d).start + (get_or cs i d).length ≤ 18446744073709551615) (sym same) (fits_at chunks i d all (subst (λ cs. i < length cs) same h))

pub none_in_order : (chunks sorted : List Chunk) (copies : List (ℕ × Chunk)) (apart clear : Bool) → chunks ≡ [] → sorted ≡ [] → copies ≡ [] → InOrder chunks sorted copies apart clear 0
unfolding all_by_start
none_in_order chunks sorted copies apart clear a b c = rw (a, b) (record {
  order = refl;
  fit = tt;
  distances = λ _ k d h. absurd (omega arith);
  around = none_turned copies c;
  there = λ _ k d h. absurd (omega arith);
  sources = λ _ copy has. absurd (none_there copies c copy has);
  none_meet = λ _. tt;
  front_clear = tt;
})

-- the chunks by start ascend
pub in_order-ascends : (chunks sorted items : List Chunk) (copies : List (ℕ × Chunk)) (apart clear : Bool) (front : ℕ) → InOrder chunks sorted copies apart clear front → items ≡ sorted → Ascend items
in_order-ascends chunks sorted items copies apart clear front kept is = subst Ascend (sym (is ∙ kept.order)) (by_start-ascends chunks)

-- a chunk that stands apart from those by start, put among them
pub kept_apart : (sorted items parts : List Chunk) (rank : ℕ) (chunk : Chunk) (was result apart : Bool) → (was ≡ true → AreApart sorted) → was ≡ true → items ≡ sorted → rank ≤ length items → parts ≡ sorted → (IsTrue result → 0 < rank → (get_or parts (rank - 1) chunk).start + (get_or parts (rank - 1) chunk).length ≤ chunk.start) → (IsTrue result → rank < length parts → chunk.start + chunk.length ≤ (get_or parts rank chunk).start) → apart ≡ result → apart ≡ true → AreApart (insert sorted rank chunk)
kept_apart sorted items parts rank chunk was result apart kept on i low p before behind is now =
    let passes : result ≡ true = sym is ∙ now in
    insert_apart sorted rank chunk (kept on) (subst (λ cs. rank ≤ length cs) i low)
    (λ h. subst (λ cs. (get_or cs (rank - 1) chunk).start + (get_or cs (rank - 1) chunk).length ≤ chunk.start) p (before passes h))
    (λ h. subst (λ cs. chunk.start + chunk.length ≤ (get_or cs rank chunk).start) p (behind passes (subst (λ cs. rank < length cs) (sym p) h)))

-- more copies than those of the chunks, where the last chunk was not put
pub more_copies : (chunks sorted wide : List Chunk) (copies more : List (ℕ × Chunk)) (apart was : Bool) (front : ℕ) → InOrder chunks sorted copies apart was front → wide ≡ sorted → AreTurned more → InOrder chunks wide more apart false front
more_copies chunks sorted wide copies more apart was front kept w around = record {
  order = w ∙ kept.order;
  fit = kept.fit;
  distances = λ now. subst AreApart (sym w) (kept.distances now);
  around = around;
  there = λ now. absurd (both_ways false refl now);
  sources = λ now. absurd (both_ways false refl now);
  none_meet = λ now. absurd (both_ways false refl now);
  front_clear = subst (λ cs. AllClear (take front cs)) (sym w) kept.front_clear;
}

-- what was inserted, removed again
remove-insert : (xs : List Chunk) (i : ℕ) (y : Chunk) → i ≤ length xs → remove (insert xs i y) i ≡ xs
remove-insert xs i y low =
    let long : length (insert xs i y) ≡ length xs + 1 = length-insert xs i y low in
    let short : length (remove (insert xs i y) i) + 1 ≡ length (insert xs i y) = length-remove (insert xs i y) i (omega arith) in
    same_lists (remove (insert xs i y) i) xs (omega arith) (λ k d l.
    ⊎_elim (λ h. get_or-remove_below (insert xs i y) i d k h (omega arith) ∙ get_or-insert_below xs i y d k h low)
    (λ h. get_or-remove_above (insert xs i y) i d k h (omega arith) ∙ get_or-insert_above xs i y d k h low)
    (cases_lt k i))

-- a chunk taken out again
pub undone : (chunks sorted longer wide back : List Chunk) (copies more : List (ℕ × Chunk)) (chunk : Chunk) (rank : ℕ) (pushed apart was : Bool) (front : ℕ) → InOrder chunks sorted copies apart was front → rank ≡ rank_by_start chunk.start sorted → longer ≡ cond pushed (chunks ++ chunk ∷ []) chunks → pushed ≡ false → wide ≡ insert sorted rank chunk → back ≡ remove wide rank → AreTurned more → InOrder longer back more apart false front
undone chunks sorted longer wide back copies more chunk rank pushed apart was front kept r m mf w b around =
    let low : rank ≤ length sorted = rw r (rank_low chunk.start sorted) in
    let same : back ≡ sorted = b ∙ ap (λ cs. remove cs rank) w ∙ remove-insert sorted rank chunk low in
    let m1 : longer ≡ chunks = m ∙ ap (λ b. cond b (chunks ++ chunk ∷ []) chunks) mf in
    subst (λ cs. InOrder cs back more apart false front) (sym m1) (more_copies chunks sorted back copies more apart was front kept same around)

-- each copy is one of the chunks or of the new one
all_of_one : (chunks : List Chunk) (copies more : List (ℕ × Chunk)) (chunk : Chunk) → ((copy : Chunk) → Has copies copy → IsOfOne chunks copy) → ((copy : Chunk) → Has more copy → Has copies copy ⊎ IsCopyOf chunk copy) → (copy : Chunk) → Has more copy → IsOfOne (chunks ++ chunk ∷ []) copy
all_of_one chunks copies more chunk all sources copy has =
    ⊎_elim
    (λ old. let one : IsOfOne chunks copy = all copy old in (one.0, Contains-append_left chunks (chunk ∷ []) one.0 one.1, one.2))
    (λ new. (chunk, Contains-push chunks chunk, new))
    (sources copy has)

-- of chunks whose copies do not meet, those of the first do not
clear_front : (k : ℕ) (chunks : List Chunk) → AllClear chunks → AllClear (take k chunks)
clear_front k [] clear = subst AllClear (sym (take_all k [] (omega arith))) clear
clear_front zero (chunk ∷ chunks) clear = tt
clear_front (suc k) (chunk ∷ chunks) clear = (
  (λ i d l. let in_front : i < k = omega (arith, length-take k chunks) in
      let under : i < length chunks = omega (arith, length-take k chunks) in
      subst (λ (later : Chunk). IsClearOf later chunk) (sym (get_or-take k chunks i d in_front)) (clear.0 i d under)),
  clear.1,
  clear_front k chunks clear.2,
)

-- the first chunks, where one more is put behind some of them
front_put : (chunk : Chunk) (sorted : List Chunk) (rank front ahead : ℕ) → rank ≤ length sorted → ahead ≤ min front rank → AllClear (take front sorted) → AllClear (take ahead (insert sorted rank chunk))
front_put chunk sorted rank front ahead low few clear =
    let same : take ahead (insert sorted rank chunk) ≡ take ahead sorted =
    take-append-le ahead (take rank sorted) (chunk ∷ drop rank sorted) (omega (arith, length-take rank sorted)) ∙ take-take ahead rank sorted (omega arith) in
    let part : take ahead (take front sorted) ≡ take ahead sorted = take-take ahead front sorted (omega arith) in
    subst AllClear (part ∙ sym same) (clear_front ahead (take front sorted) clear)

front_after : (chunk : Chunk) (sorted wide : List Chunk) (rank front ahead : ℕ) (clear : Bool) → rank ≤ length sorted → wide ≡ insert sorted rank chunk → AllClear (take front sorted) → (clear ≡ true → AllClear wide) → (clear ≡ false → ahead ≤ min front rank) → AllClear (take ahead wide)
front_after chunk sorted wide rank front ahead true low w was all next = clear_front ahead wide (all refl)
front_after chunk sorted wide rank front ahead false low w was all next = rw w (front_put chunk sorted rank front ahead low (next refl) was)

-- a chunk at a place in front of which no copies meet
pub clear_in_front : (chunks : List Chunk) (front place : ℕ) (d : Chunk) → AllClear (take front chunks) → place < front → place < length chunks → MeetsNone (take place chunks) (get_or chunks place d)
clear_in_front chunks front place d clear h l =
    let parts : take place (take front chunks) ≡ take place chunks = take-take place front chunks (omega arith) in
    let here : get_or (take front chunks) place d ≡ get_or chunks place d = get_or-take front chunks place d h in
    subst (λ c. MeetsNone (take place chunks) c) here (subst (λ cs. MeetsNone cs (get_or (take front chunks) place d)) parts (clear_at (take front chunks) place d clear (omega (arith, length-take front chunks))))

-- one chunk more in all lists
pub added_in_order : (chunks sorted longer wide : List Chunk) (copies more : List (ℕ × Chunk)) (chunk : Chunk) (rank : ℕ) (pushed apart was clear now : Bool) (front ahead : ℕ) → InOrder chunks sorted copies apart was front → chunk.start + chunk.length ≤ 18446744073709551615 → rank ≡ rank_by_start chunk.start sorted → longer ≡ cond pushed (chunks ++ chunk ∷ []) chunks → pushed ≡ true → wide ≡ insert sorted rank chunk → (now ≡ true → AreApart (insert sorted rank chunk)) → AreTurned more → (clear ≡ true → was ≡ true) → ((copy : Chunk) → Has copies copy → Has more copy) → (clear ≡ true → HasCopies more chunk) → (clear ≡ true → AreFree copies chunk) → ((copy : Chunk) → Has more copy → Has copies copy ⊎ IsCopyOf chunk copy) → (clear ≡ false → ahead ≤ min front rank) → InOrder longer wide more now clear ahead
added_in_order chunks sorted longer wide copies more chunk rank pushed apart was clear now front ahead kept fits r m mt w keeps around stays contained has free sources next =
    let m1 : longer ≡ chunks ++ chunk ∷ [] = m ∙ ap (λ b. cond b (chunks ++ chunk ∷ []) chunks) mt in
    let w2 : wide ≡ put_by_start chunk sorted = w ∙ ap (λ n. insert sorted n chunk) r ∙ insert_rank chunk sorted in
    let order : wide ≡ by_start longer = w2 ∙ ap (put_by_start chunk) kept.order ∙ sym (all_by_start-push [] chunks chunk) ∙ ap by_start (sym m1) in
    let fit : AllFit longer = subst AllFit (sym m1) (AllFit-push chunks chunk kept.fit fits) in
    let old : clear ≡ true → All (HasCopies more) chunks = λ on. All-weaker (HasCopies copies) (HasCopies more) (λ other h. has_more copies more other contained h) chunks (kept.there (stays on)) in
    let by : clear ≡ true → All (HasCopies copies) sorted = λ on. subst (All (HasCopies copies)) (sym kept.order) (All-permutation (HasCopies copies) chunks (by_start chunks) (by_start-permutes chunks) (kept.there (stays on))) in
    let all : clear ≡ true → AllClear wide = λ on. subst AllClear (sym w2) (put_clear copies chunk sorted (free on) (by on) (kept.none_meet (stays on))) in
    record {
      order = order;
      fit = fit;
      distances = λ on. subst AreApart (sym w) (keeps on);
      around = around;
      there = λ on. subst (All (HasCopies more)) (sym m1) (All-push (HasCopies more) chunks chunk (old on) (has on));
      sources = λ on copy there. subst (λ cs. IsOfOne cs copy) (sym m1) (all_of_one chunks copies more chunk (kept.sources (stays on)) sources copy there);
      none_meet = all;
      front_clear = front_after chunk sorted wide rank front ahead clear (rw r (rank_low chunk.start sorted)) w kept.front_clear all next;
    }

-- the rules on the array and on the chunks by start are those on the map
pub map_array : (chunks array items given : List Chunk) (end : ℕ) (finding : Finding) → items ≡ chunks → given ≡ array → Some finding ≡ first_failing (array_rows items given) → Some finding ≡ map_finding chunks array end
map_array chunks array items given end finding a b is =
    let tail : List TableRow = rows_by_start [] (by_start chunks) end in
    let here : Some finding ≡ first_failing (array_rows chunks array) = rw (a, b) at is in
    sym (first_failing_joined (array_rows chunks array) tail ∙ ap (λ o. or_found o (first_failing tail)) (sym here))

pub map_sorted : (chunks array items given kept sorted : List Chunk) (end : ℕ) (first found : Option Finding) → items ≡ chunks → given ≡ array → first ≡ first_failing (array_rows items given) → first ≡ None → sorted ≡ by_start kept → kept ≡ chunks → found ≡ first_failing (rows_by_start [] sorted end) → found ≡ map_finding chunks array end
map_sorted chunks array items given kept sorted end first found a b is none order k last =
    let tail : List TableRow = rows_by_start [] (by_start chunks) end in
    let here : first_failing (array_rows chunks array) ≡ None = subst (λ cs. first_failing (array_rows cs array) ≡ None) a (subst (λ cs. first_failing (array_rows items cs) ≡ None) b (sym is ∙ none)) in
    last ∙ ap (λ cs. first_failing (rows_by_start [] cs end)) (order ∙ ap by_start k)
    ∙ sym (first_failing_joined (array_rows chunks array) tail ∙ ap (λ o. or_found o (first_failing tail)) here)

-- the finding on the chunk at a place among chunks by start
pub sorted_found : (chunks : List Chunk) (place : ℕ) (d : Chunk) (end : ℕ) (finding : Finding) (whole : Option Finding) → place < length chunks → first_failing (rows_by_start (take place chunks) (drop place chunks) end) ≡ whole → Some finding ≡ first_failing (rows_of_chunk (take place chunks) (get_or chunks place d) end) → Some finding ≡ whole
sorted_found chunks place d end finding whole h left is =
    let chunk : Chunk = get_or chunks place d in
    let front : List Chunk = take place chunks in
    let tail : List TableRow = rows_by_start (front ++ chunk ∷ []) (drop (place + 1) chunks) end in
    sym (first_failing_joined (rows_of_chunk front chunk end) tail ∙ ap (λ o. or_found o (first_failing tail)) (sym is))
    ∙ sym (ap (λ cs. first_failing (rows_by_start front cs end)) (drop_more chunks place d h)) ∙ left
