-- The homes of a range by two lists of chunks.
use Rattle.std.proofs.Common.{◌≡◌, ℕ, suc, zero, ◌+◌, ◌<◌, ◌≤◌, Bool, true, false, cond, ◌&&◌, inl, inr, List, [], ◌∷◌, length, get_or, refl, sym, ap, ◌∙◌, subst, arith, nat_le}
use Rattle.std.specs.Prelude.{◌==◌, Option, Some, None, option_map}
use Rattle.std.specs.Option.{unwrap_or}
use Rattle.std.specs.List.{Contains}
use Rattle.std.proofs.lemmas.Bool.{and_from, and_parts, both_ways, cases_order, eqb-true, le-leb, leb-true}
use Rattle.std.proofs.lemmas.List.{get_or_default}
use Rattle.std.proofs.lemmas.List.Elements.{Contains-append_left, Contains-append_right, Contains-push}
use Rattle.verdict.specs.Chunks.{holds_range, home}
use Rattle.verdict.specs.declared.place.Chunk.{Chunk}
use Rattle.accounts.specs.Context.{home_in}
use Rattle.change_records.specs.Homes.{StandApart, is_kept, is_like}

pub one_chunk : (h g : Chunk) → Some h ≡ Some g → h ≡ g
one_chunk h g is = ap (λ o. unwrap_or o h) is

-- what is answered is of the list and holds the range
pub record IsHolder (chunks : List Chunk) (a n : ℕ) (c : Chunk) : Type 0 where
  pub among : Contains chunks c
  pub holds : holds_range c a n ≡ true

holder_behind : (chunk : Chunk) (chunks : List Chunk) (a n : ℕ) (c : Chunk) → IsHolder chunks a n c → IsHolder (chunk ∷ chunks) a n c
holder_behind chunk chunks a n c is = record { among = Contains-append_right (chunk ∷ []) chunks c is.among; holds = is.holds }

home_head : (chunk : Chunk) (chunks : List Chunk) (a n : ℕ) (c : Chunk) (b : Bool) → holds_range chunk a n ≡ b → (home chunks a n ≡ Some c → IsHolder chunks a n c)
    → cond b (Some chunk) (home chunks a n) ≡ Some c → IsHolder (chunk ∷ chunks) a n c
home_head chunk chunks a n c true e later is =
    subst (IsHolder (chunk ∷ chunks) a n) (one_chunk chunk c is)
    (record { among = Contains-append_left (chunk ∷ []) chunks chunk (Contains-push [] chunk); holds = e })
home_head chunk chunks a n c false e later is = holder_behind chunk chunks a n c (later is)

pub home_some : (chunks : List Chunk) (a n : ℕ) (c : Chunk) → home chunks a n ≡ Some c → IsHolder chunks a n c
home_some [] a n c is = absurd (cc)
home_some (chunk ∷ chunks) a n c is = home_head chunk chunks a n c (holds_range chunk a n) refl (home_some chunks a n c) is

none_behind : (chunk : Chunk) (chunks : List Chunk) (a n : ℕ) (b : Bool) → holds_range chunk a n ≡ b → cond b (Some chunk) (home chunks a n) ≡ None
    → (holds_range chunk a n ≡ false) × (home chunks a n ≡ None)
none_behind chunk chunks a n true e is = absurd (cc)
none_behind chunk chunks a n false e is = (e, is)

pub home_none : (chunks : List Chunk) (a n : ℕ) → home chunks a n ≡ None → (k : ℕ) (d : Chunk) → k < length chunks → holds_range (get_or chunks k d) a n ≡ false
home_none [] a n is k d small = absurd (omega arith)
home_none (chunk ∷ chunks) a n is zero d small = (none_behind chunk chunks a n (holds_range chunk a n) refl is).0
home_none (chunk ∷ chunks) a n is (suc k) d small = home_none chunks a n (none_behind chunk chunks a n (holds_range chunk a n) refl is).1 k d (omega arith)

-- a list with a chunk that holds a range has a home of it
pub nowhere : (chunks : List Chunk) (a n : ℕ) (c : Chunk) → IsHolder chunks a n c → home chunks a n ≡ None → ⊥
nowhere chunks a n c is none =
    let holds : holds_range (get_or chunks is.among.0 c) a n ≡ true = subst (λ x. holds_range x a n ≡ true) (sym is.among.2) is.holds in
    both_ways _ (home_none chunks a n none is.among.0 c is.among.1) holds

-- of chunks that stand apart one alone holds a range that is not empty
apart_holder : (chunks : List Chunk) (a n k m : ℕ) (d : Chunk) → StandApart chunks → 0 < n → k < m → m < length chunks → holds_range (get_or chunks k d) a n ≡ true
    → holds_range (get_or chunks m d) a n ≡ true → ⊥
apart_holder chunks a n k m d apart some small within first second =
    let high : a + n ≤ (get_or chunks k d).start + (get_or chunks k d).length = leb-true _ _ (and_parts (nat_le (get_or chunks k d).start a) _ first).1 in
    let low : (get_or chunks m d).start ≤ a = leb-true _ _ (and_parts (nat_le (get_or chunks m d).start a) (nat_le (a + n) ((get_or chunks m d).start + (get_or chunks m d).length)) second).0 in
    let between : (get_or chunks k d).start + (get_or chunks k d).length ≤ (get_or chunks m d).start = apart k m d small within in
    omega (arith, high, low, between, some)

-- and of a range that is not empty there is one such chunk
pub one_holder : (chunks : List Chunk) (a n : ℕ) (c d : Chunk) → StandApart chunks → 0 < n → IsHolder chunks a n c → IsHolder chunks a n d → c ≡ d
one_holder chunks a n c d apart some first second = elim (cases_order first.among.0 second.among.0) [
  | inl same ↦
      sym first.among.2 ∙ get_or_default chunks first.among.0 c d first.among.1 ∙ ap (λ i. get_or chunks i d) same ∙ second.among.2
  | inr other ↦ elim other [
    | inl below ↦ absurd (apart_holder chunks a n first.among.0 second.among.0 d apart some below second.among.1 (at_first first) (at_second second))
    | inr above ↦ absurd (apart_holder chunks a n second.among.0 first.among.0 d apart some above first.among.1 (at_second second) (at_first first))
  ]
]
  where
    at_first : (h : IsHolder chunks a n c) → holds_range (get_or chunks h.among.0 d) a n ≡ true
    at_first h = subst (λ x. holds_range x a n ≡ true) (sym (sym (get_or_default chunks h.among.0 c d h.among.1) ∙ h.among.2)) h.holds

    at_second : (h : IsHolder chunks a n d) → holds_range (get_or chunks h.among.0 d) a n ≡ true
    at_second h = subst (λ x. holds_range x a n ≡ true) (sym h.among.2) h.holds

-- the like of a kept chunk in the other list
pub record IsLike (others : List Chunk) (a n : ℕ) (c d : Chunk) : Type 0 where
  pub holder : IsHolder others a n d
  pub same : home_in d ≡ home_in c

like_is : (c d : Chunk) → is_like c (Some d) ≡ true → home_in d ≡ home_in c
like_is c d is =
    let first = and_parts (d.start == c.start) (d.length == c.length && d.class == c.class) is in
    let rest = and_parts (d.length == c.length) (d.class == c.class) first.1 in
    let e1 : d.start ≡ c.start = eqb-true _ _ first.0 in
    let e2 : d.length ≡ c.length = eqb-true _ _ rest.0 in
    let e3 : d.class ≡ c.class = eqb-true _ _ rest.1 in
    λ i. record { start = e1 i; length = e2 i; class = e3 i }

like_by : (others : List Chunk) (c : Chunk) (a n : ℕ) (o : Option Chunk) → home others c.start c.length ≡ o → is_like c o ≡ true
    → holds_range c a n ≡ true → (d : Chunk) × IsLike others a n c d
like_by others c a n None e is holds = absurd (cc)
like_by others c a n (Some d) e is holds =
    let same : home_in d ≡ home_in c = like_is c d is in (
      d,
      record {
        holder = record {
          among = (home_some others c.start c.length d e).among;
          holds = ap (λ h. nat_le h.start a && nat_le (a + n) (h.start + h.length)) same ∙ holds;
        };
        same = same;
      },
    )

pub like_of : (others : List Chunk) (c : Chunk) (a n : ℕ) → is_kept others c ≡ true → holds_range c a n ≡ true → (d : Chunk) × IsLike others a n c d
unfolding is_kept
like_of others c a n kept holds = like_by others c a n (home others c.start c.length) refl kept holds

-- a chunk that holds a range lies whole in no chunk of a list that has no home of the range
home_gone : (chunks : List Chunk) (a n : ℕ) (d : Chunk) → holds_range d a n ≡ true → home chunks a n ≡ None → home chunks d.start d.length ≡ None
home_gone chunks a n d holds none = by (home chunks d.start d.length) refl
  where
    by : (o : Option Chunk) → home chunks d.start d.length ≡ o → home chunks d.start d.length ≡ None
    by None e = e
    by (Some c) e =
        let outer = home_some chunks d.start d.length c e in
        let around = and_parts (nat_le c.start d.start) (nat_le (d.start + d.length) (c.start + c.length)) outer.holds in
        let inside = and_parts (nat_le d.start a) (nat_le (a + n) (d.start + d.length)) holds in
        let low : c.start ≤ a = let x : c.start ≤ d.start = leb-true _ _ around.0 in let y : d.start ≤ a = leb-true _ _ inside.0 in omega arith in
        let high : a + n ≤ c.start + c.length = let x : d.start + d.length ≤ c.start + c.length = leb-true _ _ around.1 in let y : a + n ≤ d.start + d.length = leb-true _ _ inside.1 in omega arith in
        absurd (nowhere chunks a n c (record { among = outer.among; holds = and_from _ _ (le-leb _ _ low) (le-leb _ _ high) }) none)

-- Where no old chunk that holds a range is missed, nor a new one that no old chunk holds whole, the range has like homes by both lists.
pub homes_kept : (olds news : List Chunk) (a n : ℕ) → StandApart news → 0 < n → ((c : Chunk) → IsHolder olds a n c → (is_kept news c ≡ true → ⊥) → ⊥)
    → ((d : Chunk) → IsHolder news a n d → home olds d.start d.length ≡ None → ⊥) → (option_map home_in (home olds a n) ≡ option_map home_in (home news a n) → ⊥) → ⊥
homes_kept olds news a n apart some first second differ = by (home olds a n) (home news a n) refl refl
  where
    same : (o p : Option Chunk) → home olds a n ≡ o → home news a n ≡ p → option_map home_in o ≡ option_map home_in p → ⊥
    same o p e f is = differ (ap (option_map home_in) e ∙ is ∙ sym (ap (option_map home_in) f))

    by : (o p : Option Chunk) → home olds a n ≡ o → home news a n ≡ p → ⊥
    by None None e f = same None None e f refl
    by None (Some d) e f =
        let mine = home_some news a n d f in second d mine (home_gone olds a n d mine.holds e)
    by (Some c) None e f =
        let mine = home_some olds a n c e in
        first c mine (λ kept. (let like = like_of news c a n kept mine.holds in nowhere news a n like.0 like.1.holder f))
    by (Some c) (Some d) e f =
        let mine = home_some olds a n c e in
        first c mine (λ kept.
        (let like = like_of news c a n kept mine.holds in
        let one : d ≡ like.0 = one_holder news a n d like.0 apart some (home_some news a n d f) like.1.holder in
        same (Some c) (Some d) e f (sym (ap (λ x. Some (home_in x)) one ∙ ap Some like.1.same))))

-- a range that no chunk of either list holds has like homes by both
pub homes_none : (olds news : List Chunk) (a n : ℕ) → ((c : Chunk) → IsHolder olds a n c → ⊥) → ((d : Chunk) → IsHolder news a n d → ⊥)
    → (option_map home_in (home olds a n) ≡ option_map home_in (home news a n) → ⊥) → ⊥
homes_none olds news a n first second differ = by (home olds a n) (home news a n) refl refl
  where
    by : (o p : Option Chunk) → home olds a n ≡ o → home news a n ≡ p → ⊥
    by None None e f = differ (ap (option_map home_in) e ∙ sym (ap (option_map home_in) f))
    by None (Some d) e f = second d (home_some news a n d f)
    by (Some c) p e f = first c (home_some olds a n c e)

-- chunks of which one starts before the end of the one before it do not stand apart
pub not_apart : (chunks : List Chunk) (i end : ℕ) (d : Chunk) → i < length chunks → (get_or chunks i d).start < end → (i ≡ 0 → end ≡ 0)
    → ((k : ℕ) (d : Chunk) → k + 1 ≡ i → end ≡ (get_or chunks k d).start + (get_or chunks k d).length) → StandApart chunks → ⊥
not_apart chunks zero end d within low first last apart = let none : end ≡ 0 = first refl in absurd (omega (arith, none, low))
not_apart chunks (suc k) end d within low first last apart =
    let is : end ≡ (get_or chunks k d).start + (get_or chunks k d).length = last k d (omega arith) in
    let gap : (get_or chunks k d).start + (get_or chunks k d).length ≤ (get_or chunks (suc k) d).start = apart k (suc k) d (omega arith) within in
    absurd (omega (arith, is, gap, low))
