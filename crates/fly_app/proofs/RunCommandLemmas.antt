-- What the command `run` has done.
use Rattle.std.proofs.Common.{◌≡◌, ◌⊎◌, ℕ, List, map, Result, Ok, Err, IfOk, MatchResult, String, Global, string_bytes, subst, refl, sym, ap, ◌∙◌, inl, inr}
use Rattle.fly_types.specs.declared.memory.NoMemory.{NoMemory}
use Rattle.fly_ports.specs.Clock.{ClockState}
use Rattle.fly_ports.specs.Files.{FilesState, FailsToRead}
use Rattle.fly_ports.specs.Sink.{SinkState, Tries}
use Rattle.fly_ports.specs.Spawner.{SpawnerState}
use Rattle.fly_docs.specs.declared.closure.Closure.{Closure}
use Rattle.fly_docs.specs.declared.submission.Submission.{Submission}
use Rattle.fly_state.specs.Plans.{RunPlan}
use Rattle.fly_world.specs.World.{World}
use Rattle.fly_work.specs.declared.driving.DriveFault.TheVariants as fault
use Rattle.fly_app.specs.declared.status.Status.{Status}
use Rattle.fly_app.specs.declared.status.Status.TheVariants as statuses
use Rattle.fly_app.specs.declared.accepting.Accepted.{Accepted}
use Rattle.fly_app.specs.RunWords.{RunRequest, IsRun}
use Rattle.fly_app.specs.Outside.{Outside, outside, IsUnread}
use Rattle.fly_app.specs.Printing.{unwritten_text, no_memory_text}
use Rattle.fly_app.specs.Answers.{Answer, LacksMemory}
use Rattle.fly_app.specs.RunRefusals.{HasRunRefusal, IsRunUnread, bundle_unread, submissions_unread, journal_unread}
use Rattle.fly_app.specs.RunOutside.{RunOutside, run_outside, WorkOutside, work_outside, work_of, HasNotWorked, FailsAppend}
use Rattle.fly_app.specs.Runs.{RunSetup, setup_of, IsFinished, IsBrokenOff}
use Rattle.fly_app.specs.RunAnswers.{AsksForNoRun, HasRun, HasDoneRun, declined, unwritten, without_memory, began}
use Rattle.fly_app.specs.Accepting.{IsMadeOf, Accepts}
use Rattle.fly_app.specs.Running.{setup_for, setup_with, StopsRun, PrintsReport, RunsAccepted}
use Rattle.fly_app.proofs.CommandLemmas.{Says}

-- ---- a run that began

-- its outside, with what the streams have got
abbrev around : WorkOutside → SinkState → SinkState → RunOutside
around w out err = run_outside (outside w.files out err) w.clock w.spawner

pub ran : (run : RunSetup) (before after : WorkOutside) (w : World) (out new_out err new_err : SinkState)
    (status : Status)
    → IsFinished run before after w → PrintsReport run.plan w out new_out err new_err status
    → RunsAccepted run (around before out err) (around after new_out new_err) status
ran run before after w out new_out err new_err status finished (inl printed) =
    inl (inl (record { store = w; finished = finished; out = printed.1; err = printed.2; ends = printed.0 }))
ran run before after w out new_out err new_err status finished (inr (inl failed)) =
    inl (inr (inl (record { store = w; finished = finished; out = failed.1; err = failed.2; ends = failed.0 })))
ran run before after w out new_out err new_err status finished (inr (inr none)) =
    inl (inr (inr (inr (record { store = w; made = inr finished; out = none.1; err = none.2; ends = none.0 }))))

pub unkept : (run : RunSetup) (before after : WorkOutside) (out err new_err : SinkState) (status : Status)
    → StopsRun run before after fault.Keep
    → status ≡ statuses.WriteFault → Tries err new_err unwritten_text
    → RunsAccepted run (around before out err) (around after out new_err) status
unkept run before after out err new_err status (broke, fails) ends tried =
    inl (inr (inr (inl (record {
      store = broke.0;
      broken = broke.1;
      fails = fails;
      out = refl;
      err = tried;
      ends =
          ends;
    }))))

pub short : (run : RunSetup) (before after : WorkOutside) (out err new_err : SinkState) (status : Status)
    → StopsRun run before after fault.NoMemory
    → status ≡ statuses.NoMemory → Tries err new_err no_memory_text
    → RunsAccepted run (around before out err) (around after out new_err) status
short run before after out err new_err status (inl same) ends tried =
    inr (
      record { files = inl (ap (λ (w : WorkOutside). w.files) same); out = refl; err = tried; ends = ends },
      record { clock = ap (λ (w : WorkOutside). w.clock) same; spawner = ap (λ (w : WorkOutside). w.spawner) same },
    )
short run before after out err new_err status (inr broke) ends tried =
    inl (inr (inr (inr (record { store = broke.0; made = inl broke.1; out = refl; err = tried; ends = ends }))))

-- ---- what was asked for

-- what was accepted is set up as the request asks
setup : (r : RunRequest) (c : Closure) (s : List Submission) (a : Accepted) → IsMadeOf c s a
    → setup_for a r ≡ setup_of r c s
setup r c s a made =
    ap (λ (p : RunPlan). setup_with p a.hash a.submissions r.lag r.journal) made.plan
    ∙ ap (λ (h : List ℕ). setup_with (setup_of r c s).plan h a.submissions r.lag r.journal) made.hash
    ∙ ap (λ (l : List Submission). setup_with (setup_of r c s).plan (setup_of r c s).hash l r.lag r.journal)
    made.submissions

pub done_run : (words : List (List ℕ)) (old mid new : FilesState) (out new_out err new_err : SinkState)
    (c new_c : ClockState)
    (s new_s : SpawnerState) (r : RunRequest) (a : Accepted) (status : Status) → IsRun words r
    → Accepts old mid r (Ok a)
    → RunsAccepted (setup_for a r) (run_outside (outside mid out err) c s)
    (run_outside (outside new new_out new_err) new_c new_s) status
    → HasDoneRun words (run_outside (outside old out err) c s)
    (run_outside (outside new new_out new_err) new_c new_s) status
done_run words old mid new out new_out err new_err c new_c s new_s r a status asked (d, t, ok, made, ready, same) runs =
    by (subst (λ (f : FilesState). RunsAccepted (setup_for a r) (run_outside (outside f out err) c s)
    (run_outside (outside new new_out new_err) new_c new_s) status) same runs)
  where
    by : RunsAccepted (setup_for a r) (run_outside (outside old out err) c s)
        (run_outside (outside new new_out new_err) new_c new_s) status
        → HasDoneRun words (run_outside (outside old out err) c s)
        (run_outside (outside new new_out new_err) new_c new_s) status
    by (inl has) =
        began r d t asked ok (subst (λ (u : RunSetup). HasRun u (run_outside (outside old out err) c s)
        (run_outside (outside new new_out new_err) new_c new_s) status) (setup r d t a made) has)
    by (inr none) = without_memory none.0 none.1

-- what was said, while the worker did nothing
pub said_run : (words : List (List ℕ)) (old new : FilesState) (out err new_err : SinkState) (c : ClockState)
    (s : SpawnerState) (status : Status)
    → Says (AsksForNoRun words) (outside old out err) (outside new out new_err) status
    → HasDoneRun words (run_outside (outside old out err) c s) (run_outside (outside new out new_err) c s) status
said_run words old new out err new_err c s status (inl answered) = declined answered
    (record { clock = refl; spawner = refl })
said_run words old new out err new_err c s status (inr (inl answered)) = unwritten answered
    (record { clock = refl; spawner = refl })
said_run words old new out err new_err c s status (inr (inr none)) = without_memory none
    (record { clock = refl; spawner = refl })

-- a file that was not read
pub unread_kept : (old new : FilesState) (r : RunRequest) (path : List ℕ) → IsRunUnread old new r path
    → (new ≡ old) ⊎ FailsToRead old new
unread_kept old new r path (bundle_unread is (inl fails)) = inr fails
unread_kept old new r path (bundle_unread is (inr lacks)) = inl lacks.0
unread_kept old new r path (submissions_unread c at is (inl fails)) = inr fails
unread_kept old new r path (submissions_unread c at is (inr lacks)) = inl lacks.0
unread_kept old new r path (journal_unread c s documents is fails) = inr fails
