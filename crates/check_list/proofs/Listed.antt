-- Laws of specs/Listed: nothing is noted (`notes-none`), one stretch and then another (`notes-on`), one match of all (`notes-put`, `notes-full`) or of the closest few (`notes-kept`), and the list at the end (`list-filled`).
use Rattle.meaning_numbers.proofs.Prelude.{◌≡◌, refl, sym, ◌∙◌, List, [], ◌∷◌, ◌++◌, append-nil, append_assoc, ℕ, suc, ◌+◌, ◌<◌, ◌≤◌, min, arith, length, take, set, length-append, length-set, take_all, take-append-le, take-suc-set}
use Rattle.meaning_filter.specs.{declared.Pick.Pick, Matches.Upward, Matches.done, Matches.next, Ordered.placed, Closest.closest, Closest.handed}
use Rattle.meaning_filter.proofs.Closest.{closest-many}
use Rattle.meaning_entries.specs.{Buffers.filled, Buffers.pair_room, Demand3.pairs}
use Rattle.meaning_entries.proofs.Pairs.{length_pairs, pairs_set, first-columns}
use Rattle.clear.specs.Clear.{cleared_from}
use Rattle.clear.proofs.Cleared.{cleared-front}
use Rattle.check_few.specs.Kept.{Held, Keeps}
use Rattle.check_list.specs.Listed.{Noted, Notes, end_of, ListFilled}

-- ---- how the list grows

upward-front : {k : ℕ} (l m : List (ℕ × ℕ)) → Upward k (l ++ m) → Upward k l
upward-front [] m u = done
upward-front (x ∷ l) m (next h u) = next {e = x} h (upward-front l m u)

pub notes-none : (pick : Pick) (k : ℕ) (a b : List ℕ) → Notes pick [] k k a b a b
notes-none pick k a b = record { count = omega arith; as-many-offsets = refl; as-many-distances = refl; notes = λ l u v. rw append-nil v }

pub notes-on : {pick : Pick} {l m : List (ℕ × ℕ)} {k q r : ℕ} {a b a' b' a'' b'' : List ℕ} → Notes pick l k q a b a' b' → Notes pick m q r a' b' a'' b'' → Notes pick (l ++ m) k r a b a'' b''
notes-on {l = l} {m} s t =
    record {
      count = omega (arith, s.count, t.count, length-append l m);
      as-many-offsets = t.as-many-offsets ∙ s.as-many-offsets;
      as-many-distances = t.as-many-distances ∙ s.as-many-distances;
      notes = λ x u v.
          let e = append_assoc x l m in
          let w : Upward 0 ((x ++ l) ++ m) = rw e u in
          rw (← e) (t.notes (x ++ l) w (s.notes x (upward-front (x ++ l) m w) v));
    }

-- one match of all, where there is room
pub notes-put : (k j d : ℕ) (a b : List ℕ) → k < length a → k < length b → Notes Pick.All ((j, d) ∷ []) k (k + 1) a b (set a k j) (set b k d)
unfolding handed
notes-put k j d a b g h =
    let here : k < length (pairs a b) = omega (arith, length_pairs a b) in
    let room : k < pair_room a b = omega arith in
    record {
      count = omega arith;
      as-many-offsets = length-set a k j;
      as-many-distances = length-set b k d;
      notes = λ l u v.
          let x : ℕ × ℕ = (j, d) in
          let long : length (l ++ (x ∷ [])) ≡ suc k = length-append l (x ∷ []) ∙ omega (arith, v.count) in
          let old : take k (pairs a b) ≡ l = rw v.count (v.front ∙ take_all (pair_room a b) l (omega (arith, v.count))) in
          let new : take (pair_room a b) (l ++ (x ∷ [])) ≡ l ++ (x ∷ []) = take_all (pair_room a b) _ (omega (arith, long)) in
          record {
            count = omega (arith, long);
            front = rw (long, length-set a k j, length-set b k d, pairs_set a b k j d, take-suc-set (pairs a b) k x here, old, new);
          };
    }

-- and where there is none
pub notes-full : (k j d : ℕ) (a b : List ℕ) → pair_room a b ≤ k → Notes Pick.All ((j, d) ∷ []) k (k + 1) a b a b
unfolding handed
notes-full k j d a b h =
    record {
      count = omega arith;
      as-many-offsets = refl;
      as-many-distances = refl;
      notes = λ l u v.
          let x : ℕ × ℕ = (j, d) in
          let long : length (l ++ (x ∷ [])) ≡ suc k = length-append l (x ∷ []) ∙ omega (arith, v.count) in
          let all : (n : ℕ) → k ≤ n → take n (pairs a b) ≡ pairs a b = λ n g. take_all n (pairs a b) (omega (arith, length_pairs a b)) in
          record {
            count = omega (arith, long);
            front = rw long (all (suc k) (omega arith) ∙ sym (all (length l) (omega (arith, v.count))) ∙ v.front ∙ sym (take-append-le (pair_room a b) l (x ∷ []) (omega (arith, v.count))));
          };
    }

-- one match of the closest few
module _ (k : ℕ) (a b : List ℕ) (room : k ≤ pair_room a b) (l : List (ℕ × ℕ)) where
  few-all : take (pair_room a b) (closest k l) ≡ closest k l
  few-all = take_all (pair_room a b) (closest k l) (omega (arith, closest-many k l))

  noted-held : {n : ℕ} → Noted (Pick.Closest k) l n a b → Held k l a b
  unfolding handed
  noted-held v = record { front = rw (← (closest-many k l)) (v.front ∙ few-all) }

  held-noted : {n : ℕ} → n ≡ length l → Held k l a b → Noted (Pick.Closest k) l n a b
  unfolding handed
  held-noted e v = record { count = e; front = rw (closest-many k l) (v.front ∙ sym few-all) }

pub notes-kept : {k n j d : ℕ} {a b a' b' : List ℕ} → k ≤ pair_room a b → Keeps k n (j, d) a b a' b' → Notes (Pick.Closest k) ((j, d) ∷ []) n (n + 1) a b a' b'
notes-kept {k} {n} {j} {d} {a} {b} {a'} {b'} room s =
    record {
      count = omega arith;
      as-many-offsets = s.as-many-offsets;
      as-many-distances = s.as-many-distances;
      notes = λ l u v.
          held-noted k a' b' (omega (arith, s.as-many-offsets, s.as-many-distances)) (l ++ ((j, d) ∷ [])) (omega (arith, v.count, length-append l ((j, d) ∷ [])))
          (s.kept l (sym v.count) u (noted-held k a b room l v));
    }

-- ---- from nothing to the end

handed-none : (pick : Pick) → handed pick [] ≡ []
unfolding handed placed
handed-none Pick.All = refl
handed-none (Pick.Closest k) = take_all k [] (omega arith)

noted-none : (pick : Pick) (a b : List ℕ) → Noted pick [] 0 a b
noted-none pick a b = record { count = refl; front = rw (handed-none pick) (sym (take_all (pair_room a b) [] (omega arith))) }

-- where the list ends
end_is : (pick : Pick) (l : List (ℕ × ℕ)) (room : ℕ) → end_of pick (length l) room ≡ min (length (handed pick l)) room
unfolding end_of handed
end_is Pick.All l room = refl
end_is (Pick.Closest k) l room = omega (arith, closest-many k l)

-- everything from place e on is made 0, where the list ends
pub list-filled : {pick : Pick} {l : List (ℕ × ℕ)} {r e : ℕ} {a b a' b' a'' b'' : List ℕ} → Upward 0 l → Notes pick l 0 r a b a' b' → e ≡ end_of pick r (min (length a') (length b')) → a'' ≡ cleared_from e a' → b'' ≡ cleared_from e b'
    → ListFilled pick l r a b a'' b''
unfolding filled
list-filled {pick} {l} {r} {e} {a} {b} {a'} {b'} up s end f g =
    let v = s.notes [] up (noted-none pick a b) in
    let here : e ≡ min (length (handed pick l)) (pair_room a' b') = end ∙ rw v.count (end_is pick l (pair_room a' b')) in
    let front = v.front in
    record {
      count = v.count;
      offsets_are = cc (f, cleared-front e a', here, s.as-many-offsets, front, (first-columns (length (handed pick l)) a' b').0);
      distances-are = cc (g, cleared-front e b', here, s.as-many-distances, front, (first-columns (length (handed pick l)) a' b').1);
    }
