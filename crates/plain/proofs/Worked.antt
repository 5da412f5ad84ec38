-- The rows of the bench table, together, those of the rulings, the stored suspended programs and the worked histories: what the plain
-- machine makes of each is what is stated.
use Prim.Native.Nat.{ℕ}
use mathlib.Core.Path.{◌≡◌, refl, ap, ◌∙◌}
use mathlib.Core.Bool.{Bool, ◌&&◌}
use mathlib.Core.List.{List, [], ◌∷◌, ◌++◌, map}
use lib.Dec.{eqb}
use lib.ListN.{length, replicate, length-set, length-replicate}
use Rattle.blocks.specs.Blocks.{has, pack, set_of, some, seek}
use Rattle.cells.specs.Cells as cells
use Rattle.cells.specs.Cells.{programmed, erased, littered, cut_short}
use Rattle.geometry.specs.declared.Part.TheVariants.{Small}
use Rattle.geometry.specs.Parts.{word_count, block_count, bank_count, unit_of, size_in, first_in, block_in, bank_of, bank_in, bank_of_block}
use Rattle.geometry.specs.Asked.{refusal_asked, block_asked}
use Rattle.protection.specs.Protection.{protected_by, word_locked_by, unprotected}
use Rattle.plain.specs.Refusals.{number}
use Rattle.plain.specs.Figures.{program_time, window_time, erase_time, recovery_time, chip_time, running_current, standby_current, clock_limit}
use Rattle.plain.specs.declared.Array.{Array}
use Rattle.plain.specs.declared.Array.TheVariants.{Main, OneTime}
use Rattle.plain.specs.Lent.{Lent, lent, otp_words, array_of, is_whole}
use Rattle.plain.specs.Programs.{writes, datum, first_word, array_written, lies_in, block_written, bank_written, barred, barred_as, dq7, raises, finished, debris_words, debris_for, cut_off}
use Rattle.plain.specs.Operations.{running_inside, running_of, suspension_of}
use Rattle.plain.specs.Record.{fresh}
use Rattle.plain.specs.Sound.{meter_sound, program_sound, lowest, inside_sound, cycle_unsuspended, reading_sound, cycle_in_suspension, cycle_sound, still_command, is_ground, is_still, command_sound}
use Rattle.plain.specs.Commands.{is_suspended, program_is_suspended, resumes, keeps_out, begins, resets, at_ground, after_unlock, after_unlocked, after_a0, after80, after_80_unlock, after_80_unlocked, after48, after60, after68, after6060, after_lock_68, exits, after_reading, continued, entered, add_block, in_window, in_suspended_erase, written, effected}
use Rattle.plain.specs.Time.{current, inside_tick, operation_tick, lent_tick, tick, ticks}
use Rattle.plain.specs.Status.{polls, inside_polled, polled, status, given_at, given_word, reading_on, reading_word, rests, rest_word, rested, look}
use Rattle.plain.specs.Cut.{begun_block, begun_inside, begun_program, word_of, block_debris, program_debris, debris_needed, block_cut, program_cut, cut_lent}
use Rattle.plain.specs.Events.{range}
use Rattle.plain.specs.Machine.{Ran, climbed, part, range_array, range_words, run, step}
use Rattle.std.specs.Prelude.{if◌then◌else◌}
use Rattle.plain.specs.Rows.{Finding, finding, say, said, Held, Cells, filled, laid, Row, lookups, runs, hands, stated, after, handed, events_of, found, AsStated, blank}
use Rattle.plain.specs.Bench.{bench}
use Rattle.plain.specs.Rulings.{rulings}
use Rattle.plain.specs.Stored.{storeds}
use Rattle.plain.specs.Doings.{draws, goes, comes, begins_program, goes_on, has_entered, cuts}
use Rattle.plain.specs.History.{Told, kind, microsecond, hears_cycle, hears, wrote, gave_up, turned_down, wrote_as, cut_as, untold}
use Rattle.plain.specs.Worked.{Tale, Work, tells, worked, AsTold, tales}
use Rattle.plain.proofs.Lents.{length-with}
use Rattle.plain.proofs.Leaps.{inside_due, due_of, inside_less, less, drifted, leap}
use Rattle.plain.proofs.Quick.{quick_ticks, quick_ladder, quick_step, quick-step, quick_run, quick-run, run-whole}
use Rattle.plain.proofs.QuickSound.{some_at, some_of, quick_only, quick_list, quick_chip_list, quick_operation, quick_sound, quick_entry}
use Rattle.plain.proofs.HistoryLeaps.{to_go, further, later, quick_time, quick_waited, quick_tell, quick_told, quick-told}

-- ---- the cells of a row are whole by their count

length-filled : (l : Lent) (hs : List Held) (y : Array) → length (array_of y (filled l hs)) ≡ length (array_of y l)
unfolding filled
length-filled l [] y = refl
length-filled l (h ∷ hs) y =
    length-with h.array (filled l hs) _ (length-set (array_of h.array (filled l hs)) h.address h.word) y ∙ length-filled l hs y

abbrev are_whole : Cells → Bool
are_whole c = eqb c.count (word_count Small) && eqb otp_words otp_words

are-whole : (c : Cells) → is_whole Small (laid c) ≡ are_whole c
are-whole c =
    let l = lent (replicate c.count 0xFFFF) (replicate otp_words 0xFFFF) in
    rw (length-filled l c.others Main ∙ length-replicate c.count 0xFFFF, length-filled l c.others OneTime ∙ length-replicate {A = ℕ} otp_words 0xFFFF)

-- ---- the same by the quick machine

-- a range at the end of a run, over what is known to be whole or not
abbrev quick_handed : Ran → (whole : Bool) → (first count : ℕ) → Finding
quick_handed r whole first count =
    let n = number (quick_step Small r.device r.lent whole (range first count)).answer.refusal in
    finding (map said r.turns ++ (say n 0 ∷ []))
    (if eqb n 0 then part (array_of (range_array r.device.operation first) r.lent) first count else []) 0 0

quick-handed : (r : Ran) (whole : Bool) → is_whole Small r.lent ≡ whole → (first count : ℕ) → handed r first count ≡ quick_handed r whole first count
unfolding step range_words
quick-handed r whole h first count = rw (quick-step Small r.device r.lent whole h (range first count))

abbrev quick_found : Row → Finding
quick_found (lookups ls) = found (lookups ls)
quick_found (runs r cells ss hs c q) = after (quick_run Small r (laid cells) (are_whole cells) (events_of ss)) hs
quick_found (hands r cells ss first count n words) = quick_handed (quick_run Small r (laid cells) (are_whole cells) (events_of ss)) (are_whole cells) first count

quick-found : (r : Row) → found r ≡ quick_found r
quick-found (lookups ls) = refl
quick-found (runs r cells ss hs c q) =
    ap (λ x. after x hs) (quick-run Small r (laid cells) (are_whole cells) (are-whole cells) (events_of ss))
quick-found (hands r cells ss first count n words) =
    quick-handed (run Small r (laid cells) (events_of ss)) (are_whole cells) (run-whole Small r (laid cells) (events_of ss) ∙ are-whole cells) first count
    ∙ ap (λ x. quick_handed x (are_whole cells) first count) (quick-run Small r (laid cells) (are_whole cells) (are-whole cells) (events_of ss))

quick-rows : (rs : List Row) → map found rs ≡ map quick_found rs
quick-rows [] = refl
quick-rows (r ∷ rs) = rw (quick-found r, quick-rows rs)

abbrev quick_worked : Work → Tale
quick_worked w =
    let r = quick_run Small fresh (laid blank) (are_whole blank) w.events in
    tells r (quick_told Small untold r.turns) w.addresses

quick-worked : (w : Work) → worked w ≡ quick_worked w
quick-worked w =
    rw (quick-run Small fresh (laid blank) (are_whole blank) (are-whole blank) w.events)
    (ap (λ (h : Told). tells (quick_run Small fresh (laid blank) (are_whole blank) w.events) h w.addresses) (quick-told Small untold (quick_run Small fresh (laid blank) (are_whole blank) w.events).turns))

quick-tales : (ws : List Work) → map worked ws ≡ map quick_worked ws
quick-tales [] = refl
quick-tales (w ∷ ws) = rw (quick-worked w, quick-tales ws)

-- ---- computed

record Computed : Type 0 where
  rows : map quick_found bench ≡ map stated bench
  ruled : map quick_found rulings ≡ map stated rulings
  resting : map quick_found storeds ≡ map stated storeds
  told : map quick_worked tales ≡ map (λ (w : Work). w.stated) tales

computed : Computed
unfolding filled has pack set_of some seek programmed cells.raises erased littered cut_short
    block_count bank_count unit_of size_in first_in block_in bank_of bank_in bank_of_block refusal_asked block_asked protected_by word_locked_by unprotected
    number program_time window_time erase_time recovery_time chip_time running_current standby_current clock_limit
    writes datum first_word array_written lies_in block_written bank_written barred barred_as dq7 raises finished debris_words debris_for cut_off
    running_inside running_of suspension_of
    meter_sound program_sound lowest inside_sound
    cycle_unsuspended reading_sound cycle_in_suspension cycle_sound still_command is_ground is_still command_sound
    is_suspended program_is_suspended resumes keeps_out begins resets at_ground after_unlock after_unlocked after_a0 after80 after_80_unlock after_80_unlocked
    after48 after60 after68 after6060 after_lock_68 exits after_reading continued entered add_block in_window in_suspended_erase written effected
    current inside_tick operation_tick lent_tick tick
    polls inside_polled polled status given_at given_word reading_on reading_word rests rest_word rested look
    begun_block begun_inside begun_program word_of block_debris program_debris debris_needed block_cut program_cut cut_lent
    climbed some_at some_of quick_only quick_list quick_chip_list quick_operation quick_sound quick_entry quick_ladder
    inside_due due_of inside_less less drifted leap ticks quick_ticks quick_step quick_run
    kind draws goes comes microsecond begins_program goes_on has_entered hears_cycle hears wrote gave_up turned_down wrote_as cuts cut_as
    to_go further later quick_time quick_waited quick_tell quick_told
computed = record { rows = refl; ruled = refl; resting = refl; told = refl }

pub bench-holds : AsStated bench
bench-holds = quick-rows bench ∙ computed.rows

pub rulings-hold : AsStated rulings
rulings-hold = quick-rows rulings ∙ computed.ruled

pub storeds-hold : AsStated storeds
storeds-hold = quick-rows storeds ∙ computed.resting

pub tales-hold : AsTold tales
tales-hold = quick-tales tales ∙ computed.told
