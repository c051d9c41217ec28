-- A search through an index lists all matches, in order and with their distances (`all_found`): every match is a candidate, so looking among the candidates alone loses none.
-- All matches are exactly those (`all-exactly`): ascending, each once, and an offset stands among them exactly if its stretch matches.
use Rattle.meaning_numbers.specs.Place.{keep, numbers_from}
use Rattle.meaning_numbers.proofs.Prelude.{◌≡◌, refl, sym, subst, Bool, List, map, ℕ, zero, suc, ◌<◌, ◌≤◌, arith, T, by-test, ℤ}
use Rattle.meaning_numbers.proofs.{Member.map-mem, Member.mem-map, Member.numbers-mem, Member.mem-numbers, Keep.keep-twice, Keep.kept-mem, Keep.mem-kept}
use Rattle.meaning_curves.proofs.Match.{raw-yes, normal-yes}
use Rattle.meaning_rows.specs.Index.{Index}
use Rattle.meaning_filter.specs.Matches.{Question, matches, distance_to, query_length, offset_count, matches_at, all_matches, match_list, Upward, done, next, Exactly}
use Rattle.meaning_filter.specs.{declared.Kind.Kind, declared.Kind.TheVariants.Raw, declared.Kind.TheVariants.Normal, declared.Limits.Limits}
use Rattle.meaning_filter.proofs.Candidates.{Reached, kept-candidate}

pub all_found : (x : Index) (z : Question) → Reached x z.series → 0 < query_length z → 0 < z.ask.limits.scale → match_list x z ≡ all_matches z
unfolding match_list all_matches
all_found x z filed long one =
    rw (keep-twice (matches_at z) _ 0 (offset_count z) (λ j l. kept-candidate x z j filed long one (omega arith)))

-- the numbers from k on that pass a test, with something beside each, are upward
kept-upward : (p : ℕ → Bool) (f : ℕ → ℕ × ℕ) → ((j : ℕ) → (f j).0 ≡ j) → (k n : ℕ) → Upward k (map f (keep p (numbers_from k n)))
unfolding keep numbers_from
kept-upward p f e k zero = done
kept-upward p f e k (suc n) = by-test (p k)
    (λ t. rw t (next {k = k} {e = f k} (omega (arith, e k)) (subst (λ i. Upward (suc i) (map f (keep p (numbers_from (suc k) n)))) (sym (e k)) (kept-upward p f e (suc k) n))))
    (λ t. rw t (upward-down (kept-upward p f e (suc k) n)))
  where
    upward-down : {l : List (ℕ × ℕ)} → Upward (suc k) l → Upward k l
    upward-down done = done
    upward-down (next {e = e} h u) = next {k = k} {e = e} (omega arith) u

pub all-exactly : (z : Question) → Exactly z (all_matches z)
unfolding all_matches
all-exactly z = record {
  ascending = kept-upward _ _ (λ j. refl) 0 _;
  only = λ e m.
      let i = map-mem _ _ m in
      let k = kept-mem _ _ i.is in
      let b = numbers-mem 0 _ _ k.0 in
      rw i.same (omega arith, k.1, refl);
  every = λ j h t. mem-map _ (mem-kept _ (mem-numbers 0 _ j (omega arith) (omega arith)) t);
}

-- the distance of a match is at most E
pub listed-within : (k : Kind) (s q : ℕ → ℤ) (m : ℕ) (l : Limits) → T (matches k s q m l) → distance_to k s q m l ≤ l.threshold
unfolding matches distance_to
listed-within Raw s q m l t = (raw-yes s q m _ _ t).near
listed-within Normal s q m l t = (normal-yes s q m _ _ _ _ t).near
