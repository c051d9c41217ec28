-- What an event does to the loop that judges a text: what is left of the text comes to what the text comes to, and no count is above the bytes read (`Scanning`).
use Rattle.meaning_numbers.proofs.Prelude.{◌≡◌, List, ℕ, ◌+◌, ◌<◌, ℤ, pos, length, get_or}
use Rattle.meaning_text.specs.Read.{unfit}
use Rattle.meaning_text.proofs.Automaton.{at_end}
use Rattle.text_index.specs.{declared.Field.Field, declared.State.State, declared.Moved.Moved, Step.index_step, View.kept_at}
use Rattle.text_index.proofs.View.{end_of, Whole, Kept, kept-to, kept-value, kept-closed, kept-refuse, kept-end}
use Rattle.text_event.specs.{declared.Event.Event, Event.Quiet, Event.RunAt, Event.RunsFrom, Event.EventAt, Event.at_runs}
use Rattle.text_event.proofs.EventLaws.{quiet_keeps, value_keeps, run-keeps, row_keeps, runs-keeps}
use Rattle.text_judge.specs.{declared.Tally.Tally, Tally.start_tally, Tally.tell_tally, Tally.shut_tally, Tally.told_run, Tally.Fits}
use Rattle.text_judge.proofs.Seen.{same-fits, tell-fits, shut-fits}

module _ (text : List ℕ) where
  abbrev pub Scanning : State → Tally → ℕ → Type 0
  Scanning s t i = Kept tell_tally shut_tally start_tally text s t i × Fits t i

  to : (s : State) (t : Tally) (i : ℕ) → Scanning s t i → i < length text → (n : State) → index_step s (get_or text i 0) ≡ Moved.To n → Scanning n t (i + 1)
  to s t i r h n e = (kept-to tell_tally shut_tally start_tally text s t i r.0 h n e, same-fits t i r.1)

  value : (s : State) (t : Tally) (i : ℕ) → Scanning s t i → i < length text → (n : State) (p : Field) (z : ℤ) → index_step s (get_or text i 0) ≡ Moved.Value n p z → Scanning n (tell_tally p z t) (i + 1)
  value s t i r h n p z e = (kept-value tell_tally shut_tally start_tally text s t i r.0 h n p z e, tell-fits p z t i r.1)

  -- runs one after the other
  pub scan_runs : {t u : Tally} {i j : ℕ} → RunsFrom tell_tally text t i u j → Scanning at_runs t i → Scanning at_runs u j
  scan_runs = runs-keeps tell_tally text Scanning to value

  -- the counts stay small over a run
  pub run_fits : {t : Tally} {i l z j : ℕ} → RunAt text at_runs i (pos l) (pos z) j → Fits t i → Fits (told_run l z t) j
  run_fits {t} v f = run-keeps tell_tally text (λ (s : State) (u : Tally) (k : ℕ). Fits u k) (λ s u k g h n e. same-fits u k g) (λ s u k g h n p z e. tell-fits p z u k g) t v f

  module _ {s : State} {t : Tally} {i : ℕ} (r : Scanning s t i) where
    quiet : {n : State} {j : ℕ} → Quiet text s i n j → Scanning n t j
    quiet q = quiet_keeps tell_tally text Scanning to value t q r

    pub scan-run : {u : Tally} (l z j : ℕ) → EventAt text s i (Event.Run l z j) → u ≡ told_run l z t → Scanning at_runs u j
    scan-run l z j e told = rw told (run-keeps tell_tally text Scanning to value t e.1 (rw e.0 at r))

    pub scan-row : {u : Tally} (low up : ℤ) (l z j : ℕ) → EventAt text s i (Event.Row low up l z j) → u ≡ told_run l z (tell_tally Field.Up up (tell_tally Field.Low low t)) → Scanning at_runs u j
    scan-row low up l z j e told = rw told (row_keeps tell_tally text Scanning to value t e.1 (rw e.0 at r))

    pub scan-value : (n : State) (p : Field) (z : ℤ) (j : ℕ) → EventAt text s i (Event.Value n p z j) → Scanning n (tell_tally p z t) j
    scan-value n p z j e = value_keeps tell_tally text Scanning to value t e r

    pub scan-closed : (n : State) (j : ℕ) → EventAt text s i (Event.Closed n j) → Scanning n (shut_tally t) j
    scan-closed n j e =
        let k = quiet e.quiet in
        rw e.next (kept-closed tell_tally shut_tally start_tally text e.last t e.place k.0 e.inside n e.ends, shut-fits t e.place k.1)

    pub scan-refuse : (n : State) (j : ℕ) → EventAt text s i (Event.Refuse n j) → end_of (Whole tell_tally shut_tally start_tally text) ≡ unfit j
    scan-refuse n j e = kept-refuse tell_tally shut_tally start_tally text n t j (quiet e.0).0 e.1 e.2

    pub scan-stop : (n : State) (j : ℕ) → EventAt text s i (Event.End n j) → end_of (Whole tell_tally shut_tally start_tally text) ≡ at_end (kept_at n t) j
    scan-stop n j e = kept-end tell_tally shut_tally start_tally text n t j (quiet e.0).0 e.1
