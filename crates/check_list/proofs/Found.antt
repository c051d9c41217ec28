-- Laws of specs/Found.
use Rattle.meaning_numbers.specs.Place.{keep, numbers_from}
use Rattle.meaning_numbers.proofs.Prelude.{◌≡◌, Option, None, Some, refl, sym, Bool, true, false, cond, List, [], ◌∷◌, ◌++◌, map, append-nil, ℕ, zero, suc, ◌+◌, ◌-◌, ◌<◌, ◌≤◌, arith, add-one, ℤ, length, length-map, get_or, take-suc, by-test}
use Rattle.meaning_curves.specs.Curve.{at, stretch}
use Rattle.meaning_rows.specs.Index.{Index}
use Rattle.meaning_rows.proofs.Runs.{Apart}
use Rattle.meaning_filter.specs.Matches.{Question, distance_to, matches_at, listed, offset_count, candidate_at, candidate_runs, match_list, Upward, done, next}
use Rattle.meaning_filter.specs.{declared.Kind.Kind, declared.Limits.Limits, declared.Pick.Pick}
use Rattle.meaning_entries.specs.Demand3.{pairs}
use Rattle.meaning_entries.proofs.Pairs.{length_pairs, get_d-pairs}
use Rattle.distance_within.specs.Answer.{answer}
use Rattle.distance_match.specs.Matched.{matched}
use Rattle.check_list.specs.{Members.between, Members.members, Found.asked, Found.SumsFor, Found.found, Found.lent_runs, Found.entries_of}
use Rattle.check_list.proofs.Members.{numbers-end, keep_append, keep-length, length-numbers, members-append, kept-members}

-- a raw query asks for no sums
pub raw-sums : {kind : Kind} {s : List ℤ} {from m p w : ℕ} → kind ≡ Kind.Raw → SumsFor kind s from m p w
raw-sums e n h = let z : ◌≡◌ {A = ℕ} 0 1 = cc in absurd (omega arith)

pub found_among : (x : Index) (z : Question) → found z (members (candidate_runs x z)) ≡ match_list x z
unfolding found match_list candidate_runs
found_among x z = rw (sym (kept-members (candidate_at x z) (offset_count z)))

map-append : {A B : Type 0} (f : A → B) (l m : List A) → map f (l ++ m) ≡ map f l ++ map f m
map-append f [] m = refl
map-append {B = B} f (x ∷ l) m = rw (map-append f l m)

pub found-on : (z : Question) (l m : List ℕ) → found z (l ++ m) ≡ found z l ++ found z m
unfolding found
found-on z l m = rw (keep_append _ l m) (map-append (listed z) (keep _ l) (keep _ m))

pub found-few : (z : Question) (k n : ℕ) → length (found z (numbers_from k n)) ≤ n
unfolding found
found-few z k n = omega (arith, length-map (keep (matches_at z) (numbers_from k n)) (listed z), keep-length (matches_at z) (numbers_from k n), length-numbers k n)

entries-answer : (t : Bool) (j d : ℕ) (f : ℕ → ℕ × ℕ) → f j ≡ (j, d) → entries_of j (answer t d) ≡ map f (cond t (j ∷ []) [])
unfolding entries_of
entries-answer true j d f e = rw e
entries-answer false j d f e = refl

-- one offset
pub found-one : (pick : Pick) (kind : Kind) (s q : List ℤ) (l : Limits) (j : ℕ) → entries_of j (matched kind (stretch s j) (at q) (length q) l) ≡ found (asked pick kind s q l) (j ∷ [])
unfolding found keep matched
found-one pick kind s q l j = entries-answer (matches_at (asked pick kind s q l) j) j (distance_to kind _ (at q) (length q) l) (listed (asked pick kind s q l)) refl

pub entries-few : (j : ℕ) (m : Option ℕ) → length (entries_of j m) ≤ 1
unfolding entries_of
entries-few j (Some d) = omega arith
entries-few j None = omega arith

pub no-entries : {m : Option ℕ} (j : ℕ) → m ≡ None → entries_of j m ≡ []
unfolding entries_of
no-entries j e = rw e

pub one_entry : {m : Option ℕ} {d : ℕ} (j : ℕ) → m ≡ Some d → entries_of j m ≡ (j, d) ∷ []
unfolding entries_of
one_entry j e = rw e

-- ---- a turn of the loop over the offsets of a run

pub run_none : (z : Question) (from : ℕ) → found z (numbers_from from (from - from)) ≡ []
unfolding found keep numbers_from
run_none z from = let e : from - from ≡ 0 = omega arith in rw e

pub run_more : (pick : Pick) (kind : Kind) (s q : List ℤ) (l : Limits) (from j : ℕ) → from ≤ j
    → found (asked pick kind s q l) (numbers_from from (j + 1 - from)) ≡ found (asked pick kind s q l) (numbers_from from (j - from)) ++ entries_of j (matched kind (stretch s j) (at q) (length q) l)
run_more pick kind s q l from j h =
    let e : j + 1 - from ≡ suc (j - from) = omega arith in
    let f : from + (j - from) ≡ j = omega arith in
    rw (e, numbers-end from _, f, found-on (asked pick kind s q l) _ _, found-one pick kind s q l j)

-- ---- a turn of the loop over the runs

pub runs_none : (z : Question) (left right : List ℕ) → found z (members (lent_runs left right 0)) ≡ []
unfolding found keep members
runs_none z left right = refl

-- the members of one run more
one-run : (z : Question) (l : List (ℕ × ℕ)) (x : ℕ × ℕ) → found z (members (l ++ (x ∷ []))) ≡ found z (members l) ++ found z (between x)
unfolding members
one-run z l x = rw (members-append l _, append-nil) (found-on z _ _)

pub runs-more : (z : Question) (left right : List ℕ) (i : ℕ) → i < length left → i < length right
    → found z (members (lent_runs left right (i + 1)))
    ≡ found z (members (lent_runs left right i)) ++ found z (numbers_from (get_or left i 0) (get_or right i 0 + 1 - get_or left i 0))
runs-more z left right i g h =
    rw (add-one i, take-suc (pairs left right) i (0, 0) (omega (arith, length_pairs left right)), get_d-pairs left right i g h)
    (one-run z _ (get_or left i 0, get_or right i 0))

-- ---- what is found of runs ascends

upward-down : {k to : ℕ} {l : List (ℕ × ℕ)} → k ≤ to → Upward to l → Upward k l
upward-down h done = done
upward-down {k} h (next {e = e} g u) = next {k = k} {e = e} (omega arith) u

run-upward : (z : Question) (k n to : ℕ) {m : List (ℕ × ℕ)} → k + n ≤ to → Upward to m → Upward k (found z (numbers_from k n) ++ m)
unfolding found keep numbers_from
run-upward z k zero to h u = upward-down (omega arith) u
run-upward z k (suc n) to h u =
    let r = run-upward z (suc k) n to (omega arith) u in
    by-test (matches_at z k) (λ t. rw t (next {k = k} {e = listed z k} (omega arith) r)) (λ t. rw t (upward-down (omega arith) r))

pub found-upward : (z : Question) (n a : ℕ) (l : List (ℕ × ℕ)) → Apart n a l → Upward a (found z (members l))
unfolding Apart found keep members
found-upward z n a [] p = done
found-upward z n a (x ∷ l) p =
    rw (found-on z (between x) (members l)) (upward-down p.0 (run-upward z x.0 (x.1 + 1 - x.0) (x.1 + 2) (omega arith) (found-upward z n (x.1 + 2) l p.3)))
