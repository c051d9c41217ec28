-- The k closest of the matches so far, kept in two columns: what one match more does to them (`Keeps`), by an entry put into its place (`keeps-put`) or by nothing (`keeps-none`).
use Rattle.meaning_numbers.proofs.Prelude.{◌≡◌, refl, sym, ap, ◌∙◌, inl, inr, List, [], ◌∷◌, ◌++◌, List-as-Memᴰ as Mem, List·Memᴰ·cases-cons as cases_cons, ℕ, zero, suc, ◌-◌, ◌<◌, ◌≤◌, min, arith, dec_le, dec_lt, length, take, drop, get_or, length-append, length-take, length-drop, get_or-take, take_all, take-append-le, ext_get_or}
use Rattle.meaning_filter.specs.{Matches.Upward, Matches.done, Matches.next, Closest.closest}
use Rattle.meaning_filter.proofs.Closest.{closest-is, closest-many, closest-more, placed_at, rising}
use Rattle.meaning_entries.specs.{Buffers.pair_room, Demand3.pairs}
use Rattle.meaning_entries.proofs.Pairs.{length_pairs, get_d-pairs}
use Rattle.check_few.specs.{Place.Behind, Place.Inserted, Kept.Held, Kept.Keeps}

-- ---- an entry more in a list

module _ {A : Type 0} (z x : A) where
  put-before : (p : ℕ) (c : List A) (i : ℕ) → p ≤ length c → i < p → get_or (take p c ++ (x ∷ drop p c)) i z ≡ get_or c i z
  put-before zero c i h l = absurd (omega arith)
  put-before (suc p) [] i h l = absurd (omega arith)
  put-before (suc p) (y ∷ c) zero h l = refl
  put-before (suc p) (y ∷ c) (suc i) h l = put-before p c i (omega arith) (omega arith)

  put-here : (p : ℕ) (c : List A) → p ≤ length c → get_or (take p c ++ (x ∷ drop p c)) p z ≡ x
  put-here zero c h = refl
  put-here (suc p) [] h = absurd (omega arith)
  put-here (suc p) (y ∷ c) h = put-here p c (omega arith)

  put-moved : (p : ℕ) (c : List A) (i : ℕ) → p ≤ length c → p ≤ i → get_or (take p c ++ (x ∷ drop p c)) (suc i) z ≡ get_or c i z
  put-moved zero c i h l = refl
  put-moved (suc p) [] i h l = absurd (omega arith)
  put-moved (suc p) (y ∷ c) zero h l = absurd (omega arith)
  put-moved (suc p) (y ∷ c) (suc i) h l = put-moved p c i (omega arith) (omega arith)

  put-length : (p : ℕ) (c : List A) → p ≤ length c → length (take p c ++ (x ∷ drop p c)) ≡ suc (length c)
  put-length p c h = length-append (take p c) (x ∷ drop p c) ∙ omega (arith, length-take p c, length-drop p c)

-- ---- columns

-- the first e entries of two columns
held-long : (e : ℕ) (a b : List ℕ) {c : List (ℕ × ℕ)} → take e (pairs a b) ≡ c → e ≤ pair_room a b → length c ≡ e
held-long e a b held room = ap length (sym held) ∙ length-take e (pairs a b) ∙ omega (arith, length_pairs a b)

held_at : (e : ℕ) (a b : List ℕ) {c : List (ℕ × ℕ)} → take e (pairs a b) ≡ c → e ≤ pair_room a b → (i : ℕ) → i < e → get_or c i (0, 0) ≡ (get_or a i 0, get_or b i 0)
held_at e a b held room i h = rw (← held) (get_or-take e (pairs a b) i (0, 0) h ∙ get_d-pairs a b i (omega arith) (omega arith))

-- an entry put at p into both columns, whose first e entries were c
module _ (e k : ℕ) {p n j d : ℕ} {a b a' b' : List ℕ} (c : List (ℕ × ℕ)) (held : take e (pairs a b) ≡ c) (room : e ≤ pair_room a b) (behind : p ≤ e) (last : suc n ≡ min k (suc e)) (fits : n < pair_room a b)
    (s : Inserted p n j a a') (t : Inserted p n d b b') where
  long : length c ≡ e
  long = held-long e a b held room

  old-at : (i : ℕ) → i < e → get_or c i (0, 0) ≡ (get_or a i 0, get_or b i 0)
  old-at = held_at e a b held room

  moved_at : (i : ℕ) → p ≤ i → i < n → (get_or a' (suc i) 0, get_or b' (suc i) 0) ≡ get_or (take p c ++ ((j, d) ∷ drop p c)) (suc i) (0, 0)
  moved_at i h l = rw (s.moved i h l, t.moved i h l) (sym (put-moved (0, 0) (j, d) p c i (omega (arith, long)) h ∙ old-at i (omega arith)))

  new-at : (i : ℕ) → i < suc n → (get_or a' i 0, get_or b' i 0) ≡ get_or (take p c ++ ((j, d) ∷ drop p c)) i (0, 0)
  new-at i h = elim (dec_lt i p) [
    | yes l ↦ rw (s.before i l, t.before i l) (sym (put-before (0, 0) (j, d) p c i (omega (arith, long)) l ∙ old-at i (omega arith)))
    | no f ↦ elim (dec_le i p) [
      | yes l ↦ let g : i ≡ p = omega arith in rw (g, s.here, t.here) (sym (put-here (0, 0) (j, d) p c (omega (arith, long))))
      | no m ↦ let g : i ≡ suc (i - 1) = omega arith in rw g (moved_at (i - 1) (omega arith) (omega arith))
    ]
  ]

  both-put : take (suc n) (pairs a' b') ≡ take k (take p c ++ ((j, d) ∷ drop p c))
  both-put =
      let new = take p c ++ ((j, d) ∷ drop p c) in
      let more : length new ≡ suc e = put-length (0, 0) (j, d) p c (omega (arith, long)) ∙ ap suc long in
      let many : length (take (suc n) (pairs a' b')) ≡ suc n = length-take (suc n) (pairs a' b') ∙ omega (arith, length_pairs a' b', s.long, t.long) in
      ext_get_or (0, 0) (take (suc n) (pairs a' b')) (take k new)
      (many ∙ last ∙ sym (length-take k new ∙ ap (min k) more))
      (λ i l.
      let h : i < suc n = omega arith in
      get_or-take (suc n) (pairs a' b') i (0, 0) h ∙ get_d-pairs a' b' i (omega (arith, s.long)) (omega (arith, t.long)) ∙ new-at i h ∙ sym (get_or-take k new i (0, 0) (omega arith)))

-- ---- one match more

-- the matches before the last of a list with ascending offsets: they ascend, and all are earlier
before_last : {m : ℕ} (l : List (ℕ × ℕ)) (x : ℕ × ℕ) → Upward m (l ++ (x ∷ [])) → Upward m l × ((y : ℕ × ℕ) → Mem y l → y.0 < x.0) × (m ≤ x.0)
before_last [] x (next h u) = (done, (λ y m. elim m [ ]), h)
before_last (y ∷ l) x (next h u) =
    let r = before_last l x u in
    (next h (r.0), both_earlier (omega (arith, r.2)) (r.1), omega (arith, r.2))
  where
    both_earlier : y.0 < x.0 → ((z : ℕ × ℕ) → Mem z l → z.0 < x.0) → (z : ℕ × ℕ) → Mem z (y ∷ l) → z.0 < x.0
    both_earlier b h z m = elim (cases_cons m) [ inl e ↦ rw e b | inr i ↦ h z i ]

-- what the k closest become, where the place of the new one is known
module _ (k : ℕ) (l : List (ℕ × ℕ)) (j d p : ℕ) (a b : List ℕ) (up : Upward 0 (l ++ ((j, d) ∷ []))) (room : k ≤ pair_room a b) (held : Held k l a b) (at : Behind b (min k (length l)) d p) where
  closest-put : closest k (l ++ ((j, d) ∷ [])) ≡ take k (take p (closest k l) ++ ((j, d) ∷ drop p (closest k l)))
  closest-put =
      let c = closest k l in
      let e = min k (length l) in
      let all = before_last l (j, d) up in
      let is = closest-is k (all.0) in
      let many : length c ≡ e = closest-many k l in
      let entry : (i : ℕ) → i < e → (get_or c i (0, 0)).1 ≡ get_or b i 0 = λ i h. ap (λ (x : ℕ × ℕ). x.1) (held_at e a b (held.front) (omega arith) i h) in
      closest-more k l (j, d) ∙ ap (take k) (placed_at j d p c (λ y m. all.1 y (is.of y m)) (omega (arith, at.inside))
      (λ i h. omega (arith, at.last (omega arith), at.inside, entry (p - 1) (omega (arith, at.inside)), rising (is.ordered) i (p - 1) (omega arith) (omega (arith, at.inside, many))))
      (λ h. omega (arith, at.next (omega (arith, many)), entry p (omega (arith, many)))))

both-room : {k a b : ℕ} → k ≤ a → k ≤ b → k ≤ min a b
both-room g h = omega arith

low-room : (k m r : ℕ) → k ≤ r → min k m ≤ r
low-room k m r h = omega arith

top-room : (k n p top r : ℕ) → p < k → k ≤ r → top ≡ min n (k - 1) → top < r
top-room k n p top r low h e = omega arith

min-swap : (a b : ℕ) → min a b ≡ min b a
min-swap a b = omega arith

last-moved : (k n p m : ℕ) → p < k → m ≡ n → suc (min n (k - 1)) ≡ min k (suc (min k m))
last-moved k n p m low h = omega arith

one_more : (k n p m : ℕ) → p < k → m ≡ suc n → min k m ≡ suc (min n (k - 1))
one_more k n p m low h = omega arith

pub put-room : (n : ℕ) {k m top p a b : ℕ} → m ≡ min n k → top ≡ min n (k - 1) → p < k → p ≤ m → k ≤ a → k ≤ b → (p ≤ top) × (top < a) × (top < b)
put-room n e f low h ra rb = (omega arith, omega arith, omega arith)

-- it is put there
pub keeps-put : {k n m top p j d : ℕ} {a b a' b' : List ℕ} → m ≡ min n k → top ≡ min n (k - 1) → k ≤ length a → k ≤ length b → p < k → Behind b m d p → Inserted p top j a a' → Inserted p top d b b' → Keeps k n (j, d) a b a' b'
keeps-put {k} {n} {m} {top} {p} {j} {d} {a} {b} held-are top-is ra rb low at s t =
    let room : k ≤ pair_room a b = both-room ra rb in
    record {
      as-many-offsets = s.long;
      as-many-distances = t.long;
      kept = λ l long up held.
          let e : m ≡ min k (length l) = rw long (held-are ∙ min-swap n k) in
          let here : Behind b (min k (length l)) d p = rw e at at in
          let more : length (l ++ ((j, d) ∷ [])) ≡ suc n = length-append l ((j, d) ∷ []) ∙ rw long (omega arith) in
          let f : min k (length (l ++ ((j, d) ∷ []))) ≡ suc top = one_more k n p _ low more ∙ ap suc (sym top-is) in
          let put = both-put (min k (length l)) k (closest k l) (held.front) (low-room k (length l) (pair_room a b) room) (here.inside) (ap suc top-is ∙ last-moved k n p (length l) low long) (top-room k n p top (pair_room a b) low room top-is) s t in
          record { front = rw f (put ∙ sym (closest-put k l j d p a b up room held here)) };
    }

-- it is farther than all of k
pub keeps-none : {k n m p j d : ℕ} {a b : List ℕ} → m ≡ min n k → k ≤ length a → k ≤ length b → k ≤ p → Behind b m d p → Keeps k n (j, d) a b a b
keeps-none {k} {n} {m} {p} {j} {d} {a} {b} held-are ra rb high at =
    record {
      as-many-offsets = refl;
      as-many-distances = refl;
      kept = λ l long up held.
          let e : m ≡ min k (length l) = rw long (held-are ∙ min-swap n k) in
          let here : Behind b (min k (length l)) d p = rw e at at in
          let c = closest k l in
          let many : length c ≡ k = closest-many k l ∙ omega (arith, here.inside) in
          let whole : take p c ≡ c = take_all p c (omega arith) in
          let f : min k (length (l ++ ((j, d) ∷ []))) ≡ min k (length l) = omega (arith, length-append l ((j, d) ∷ []), here.inside) in
          let same : take k (take p c ++ ((j, d) ∷ drop p c)) ≡ c = rw whole (take-append-le k c ((j, d) ∷ drop p c) (omega arith) ∙ take_all k c (omega arith)) in
          record { front = rw f (held.front ∙ sym (closest-put k l j d p a b up (both-room ra rb) held here ∙ same)) };
    }
