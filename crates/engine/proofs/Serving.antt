-- A line served: refused, judged and carried out, or set.
use Rattle.model.specs.declared.Fate.{Fate}
use Rattle.model.specs.Fates.{same_fate}
use Rattle.model.specs.declared.Fate.TheVariants.{Stays}
use Rattle.std.specs.Prelude.{Result, Ok, Err}
use Rattle.model.specs.declared.Refusal.{Refusal}
use Rattle.model.specs.declared.Refusal.TheVariants.{Unsound, ShortAnswer, Unreadable}
use Rattle.model.specs.Refusal.{number_of, code_of}
use Rattle.screen.specs.declared.Passed.{Passed}
use Rattle.model.proofs.Facts.{number_not_0}
use Rattle.model.specs.Refusals.{first_of}
use Prim.Native.Nat.{ℕ, ◌+◌, ◌≤◌, max}
use mathlib.Core.Path.{◌≡◌, refl, sym, ◌∙◌, ap, subst⁻¹}
use mathlib.Core.Bool.{Bool, true, false}
use mathlib.Core.List.{List, [], map}
use Rattle.std.specs.Prelude.{Some, None}
use native.Mathlib.Omega.{arith}
use lib.ListN.{length, replicate, length-replicate}
use borrow.Author.Tests.{ltb-false}
use Rattle.buffers.specs.Writes.{Wrote}
use Rattle.text.specs.declared.Place.{Place}
use Rattle.text.specs.Fields.{part_of}
use Rattle.calendar.specs.declared.Now.{Now}
use Rattle.fields.specs.Meaning.{Inside}
use Rattle.model.specs.Requests as model
use Rattle.model.specs.Requests.{page, Get, ListVersions, Set, Sweep, Ask, says, in_range}
use Rattle.model.specs.Pages.{page_rows}
use Rattle.model.specs.Reports.{totals_of}
use Rattle.model.specs.Retries.{meant}
use Rattle.model.specs.Effects.{added, rows_after, config_after}
use Rattle.model.specs.Refusals.{field_checks, table_checks, least_room, page_room, short_for_page}
use Rattle.model.specs.Answers.{reported, reply}
use Rattle.model.proofs.Accepted.{meant_either}
use Rattle.settings.specs.declared.Rule.{Rule}
use Rattle.settings.specs.declared.Settings.{Settings}
use Rattle.settings.specs.declared.State.{State}
use Rattle.settings.specs.Bytes.{entries_length, rules_of, settings_with}
use Rattle.settings.specs.Meaning.{rules_mean, settings_mean, prefixes_are}
use Rattle.settings.specs.State.{state_of, settings_by}
use Rattle.table.specs.Layout.{rows_of, capacity, Holds}
use Rattle.table.proofs.Held.{rows_length}
use Rattle.bucket.specs.Whole.{Lent, lent, lent_with, bucket_of, whole}
use Rattle.bucket.proofs.Whole.{whole_parts}
use Rattle.request.specs.declared.Action.{Action}
use Rattle.request.specs.declared.Setting.{Setting}
use Rattle.request.specs.declared.Name.{Name}
use Rattle.request.specs.declared.Page.{Page}
use Rattle.request.specs.declared.Query.{Query}
use Rattle.request.specs.declared.Query.TheVariants as query
use Rattle.request.specs.declared.Verb.{Verb}
use Rattle.request.specs.declared.Verb.TheVariants as verb
use Rattle.request.specs.Grammar.{Said, said_by, read_line, asked}
use Rattle.request.specs.Meaning.{name_means, action_means, setting_means, query_means, verb_means, ActionInside, VerbInside}
use Rattle.request.proofs.Ranges.{read_in_range}
use Rattle.request.proofs.Actions.{action_unset}
use Rattle.screen.specs.Screen.{screened as field_refusal, screened_line, Screens}
use Rattle.screen.proofs.Lines.{Comes, short, unread, barred, passed, comes, passes_page, screened_first}
use Rattle.answers.specs.declared.Answer.{Answer}
use Rattle.answers.specs.declared.Answer.TheVariants as answer
use Rattle.answers.specs.Text.{longest_answer, page_text, answer_text}
use Rattle.answers.specs.Meaning.{text_of, Printable}
use Rattle.judge.specs.declared.Change.TheVariants as change
use Rattle.judge.specs.declared.Plan.{Plan}
use Rattle.judge.specs.Meaning.{plan_means, verdict_means}
use Rattle.judge.specs.Premises.{both, Asked, Sweepable, JudgesBy, JudgesOn}
use Rattle.judge.proofs.Deciding.{asks_does}
use Rattle.judge.proofs.Sweeping as judge
use Rattle.listing.specs.Ready.{Listable}
use Rattle.listing.specs.Totals.{Countable}
use Rattle.listing.proofs.Sound.{listable, countable}
use Rattle.table.specs.Searching.{Searchable}
use Rattle.table.specs.Contents.{Contents, contents, WholeBlocks}
use Rattle.search.proofs.Positions.{holds_searchable, holds_whole}
use Rattle.apply.specs.Applied.{judged}
use Rattle.outcome.specs.Decision.{Effect, Decision, does, effect, table_decision, decision}
use Rattle.outcome.specs.Calls.{Call, call, heard}
use Rattle.outcome.specs.Outcome.{Outcome, refused, outcome}
use Rattle.outcome.specs.Steps.{carried, done}
use Rattle.outcome.proofs.Room.{outcome_fits}
use Rattle.outcome.proofs.Demands.{outcome_refused}
use Rattle.outcome.proofs.Deciding.{decide_stop, decide_go, decide_done, outcome_1, outcome_2, outcome_3, outcome_said}
use Rattle.engine.specs.Configured.{Settable, configured_by}
use Rattle.engine.specs.declared.Done.{Done}
use Rattle.engine.specs.declared.Counted.{Counted}
use Rattle.engine.specs.Served.{outcome_by, outcome_from, uncounted, served_outcome, answered_with, Passing, CanCarryOut, CarriedOut}
use Rattle.engine.proofs.Ready.{whole_rules, line_says, line_judge, line_stamp, line_asked}
use Rattle.engine.proofs.Carrying.{kept_is, kept_fates, settings_after_lem}

-- ## Refusals

pub line_1 : (s : State) (us : List Rule) (n keys line a : List ℕ) (w : Bool) → w ≡ whole (lent (settings_by s us) n keys) → w ≡ false → outcome_by s (Err Unsound) us n keys a ≡ outcome (lent (settings_by s us) n keys) (call line a)
line_1 s us n keys line a w e f = outcome_1 (lent (settings_by s us) n keys) (call line a) (sym e ∙ f)

-- What is heard of a line that can be read.
hears : (line a : List ℕ) (q : Said) → read_line line ≡ Some q → heard (call line a) ≡ says (asked (length a) q)
hears line a q e = rw e

module _ (b : Lent) (line a : List ℕ) (w : whole b ≡ true) where
  said_is : (q : Said) → least_room ≤ length a → read_line line ≡ Some q
      → done b (max b.settings.time q.clock) (meant (bucket_of b).rows q.verb) a (decision (capacity b.keys) (bucket_of b) (asked (length a) q)) ≡ outcome b (call line a)
  said_is q l e = outcome_said b (call line a) (asked (length a) q) w l (hears line a q e) (read_in_range line q e)

  -- A line that its own fields refuse.
  said_stops : (k : ℕ) (q : Said) → least_room ≤ length a → read_line line ≡ Some q → k ≡ first_of (field_checks (settings_mean b.settings).config q.who (length a) (max b.settings.time q.clock) q.verb) → (k ≡ 0 → ⊥) → refused k b a ≡ outcome b (call line a)
  said_stops k q l e h z =
      let c = bucket_of b in
      let now = max b.settings.time q.clock in
      let v = meant c.rows q.verb in
      ap (λ (m : ℕ). refused m b a) h
      ∙ sym (ap (λ (d : Decision). done b now v a d) (decide_stop (field_checks c.settings.config q.who (length a) now q.verb) (table_checks (capacity b.keys) c (both now) v) (effect c (both now) q.who v) (λ i. z (h ∙ i))))
      ∙ said_is q l e

  -- A line that they don't refuse is done as the table decides of what it means.
  said_passes : (q : Said) (now : ℕ) → least_room ≤ length a → read_line line ≡ Some q → now ≡ max b.settings.time q.clock → field_refusal (settings_mean b.settings).config q.who (length a) now q.verb ≡ Ok tt
      → let v = meant (bucket_of b).rows q.verb in done b now v a (table_decision (capacity b.keys) (bucket_of b) (both now) q.who v) ≡ outcome b (call line a)
  said_passes q now l e t h =
      let c = bucket_of b in
      let m = max b.settings.time q.clock in
      let v = meant c.rows q.verb in
      rw t (sym (ap (λ (d : Decision). done b m v a d)
      (decide_go (field_checks c.settings.config q.who (length a) m q.verb) (table_checks (capacity b.keys) c (both m) v) (effect c (both m) q.who v) refl (sym (screened_first c.settings.config q.who (length a) m q.verb) ∙ ap code_of (rw t at h))))
      ∙ said_is q l e)

  pub stops : (k : Refusal) → Err k ≡ screened_line (settings_mean b.settings).config b.settings.time line (length a) → refused (number_of k) b a ≡ outcome b (call line a)
  unfolding read_line
  stops k = go (screened_line (settings_mean b.settings).config b.settings.time line (length a)) (comes (settings_mean b.settings).config b.settings.time line (length a))
    where
      stopped : (k j : Refusal) → ◌≡◌ {A = Result Passed Refusal} (Err k) (Err j) → refused (number_of j) b a ≡ outcome b (call line a) → refused (number_of k) b a ≡ outcome b (call line a)
      stopped k j e h = let q : k ≡ j = cc in rw q h

      go : (r : Result Passed Refusal) → Comes (settings_mean b.settings).config b.settings.time line (length a) r → Err k ≡ r → refused (number_of k) b a ≡ outcome b (call line a)
      go r (short l) e = stopped k ShortAnswer e (outcome_2 b (call line a) w l)
      go r (unread l f) e = stopped k Unreadable e (outcome_3 b (call line a) (length a) w l (rw f))
      go r (barred l q f j z) e =
          let h = screened_first (settings_mean b.settings).config (said_by line q).who (length a) (max b.settings.time q.clock) (said_by line q).verb in
          stopped k j e (said_stops (number_of j) (said_by line q) l (rw f) (sym (ap code_of z) ∙ h) (number_not_0 j))
      go r (passed l q f z) e = let x : ◌≡◌ {A = ℕ} 0 1 = cc in absurd (omega arith)

pub line_stopped : (s : State) (us : List Rule) (n keys line a : List ℕ) → whole (lent (settings_by s us) n keys) ≡ true → (o : Result Passed Refusal) (k : Refusal) → Screens s line (length a) o → o ≡ Err k
    → outcome_by s (Err k) us n keys a ≡ outcome (lent (settings_by s us) n keys) (call line a)
line_stopped s us n keys line a w o k h e = stops (lent (settings_by s us) n keys) line a w k (sym e ∙ h.is (settings_mean (settings_by s us)).config)

-- ## A line that passes

-- Who sends it, what judging it asks, and that what the table decides of what it means, done, is its outcome.
record Known (b : Lent) (line a : List ℕ) (v : Verb) (when : Now) : Type 0 where
  who : model.Rights
  prefixes : prefixes_are b.settings.rules ≡ true
  room : least_room ≤ length a
  inside : VerbInside line v
  asked : Asked (state_of b.settings) (contents b.numbers b.keys b.settings.used) when.judge (verb_means line v)
  held : Holds (capacity b.keys) (rows_of b.numbers b.keys b.settings.used) b.numbers b.keys
  one_now : when.stamp ≡ when.judge
  decided : (d : Decision) → let w = meant (bucket_of b).rows (verb_means line v) in d ≡ table_decision (capacity b.keys) (bucket_of b) (both when.judge) who w → done b when.judge w a d ≡ outcome b (call line a)

known : {b : Lent} {line a : List ℕ} {v : Verb} {when : Now} → Passing b line a v when → Known b line a v when
known {b} {line} {a} {v} {when} p =
    let q = line_says b line a v when p in
    record {
      who = q.who;
      prefixes = (whole_parts b p.is_whole).prefixes;
      room = q.room_fits;
      inside = q.inside;
      asked = line_asked b line a v when p;
      held = (whole_parts b p.is_whole).holds;
      one_now = line_stamp b line a v when p;
      decided = λ d e. ap (λ (x : Decision). done b when.judge (meant (bucket_of b).rows (verb_means line v)) a x) e
          ∙ said_passes b line a p.is_whole _ when.judge q.room_fits q.says (line_judge b line a v when p)
          (sym (ap (λ (t : ℕ). field_refusal (settings_mean b.settings).config q.who (length a) t (verb_means line v)) (line_stamp b line a v when p)) ∙ q.passes);
    }

-- What asks keeps the rows and takes no number.
module _ {s : State} {us : List Rule} {n keys line a : List ℕ} {x : Query} {when : Now} (p : Passing (lent (settings_by s us) n keys) line a (verb.Ask x) when) (most len : ℕ) (r : Done) (a' : List ℕ)
    (f : r ≡ answered_with s len when) where
  -- the bucket
  abbrev asked_of : Lent
  asked_of = lent (settings_by s us) n keys

  asked_kept : (e : Effect) → Wrote a 0 e.text most a' len → e.rows ≡ rows_of n keys s.used → e.taken ≡ 0
      → outcome_by s (Ok r) us n keys a' ≡ carried asked_of when.judge (Ask (query_means line x)) a e
  asked_kept e w er et =
      let q = known p in
      rw f (kept_is (settings_by s us) n keys when.judge (Ask (query_means line x)) a e most len _ a' w
      (rw q.one_now (settings_after_lem s us (Ask (query_means line x)) when.judge s.used s.next refl q.prefixes)) q.held er et)

  -- What asks without naming a row is answered, whatever the table holds.
  asked_unnamed : model.name_of (Ask (query_means line x)) ≡ None → Wrote a 0 (answer_text (reply (bucket_of asked_of) (both when.judge) (known p).who (Ask (query_means line x)))) most a' len
      → outcome_by s (Ok r) us n keys a' ≡ outcome asked_of (call line a)
  unfolding added rows_after
  asked_unnamed e w =
      asked_kept (effect (bucket_of asked_of) (both when.judge) (known p).who (Ask (query_means line x))) w refl refl
      ∙ (known p).decided _ (sym (asks_does s (contents n keys s.used) (rules_mean us) when.judge (known p).who (query_means line x) e (known p).asked.ready))

-- The table of a bucket that is whole can be lent to be read.
pub table_there : (s : State) (us : List Rule) (n keys line a : List ℕ) (v : Verb) (when : Now) → Passing (lent (settings_by s us) n keys) line a v when → Searchable n keys s.used
table_there s us n keys line a v when p = let k = known p in holds_searchable k.held k.asked.ready.in_order s.used (sym (rows_length n keys s.used))

-- Its blocks are whole, as a sweep needs them.
pub table_whole : (s : State) (us : List Rule) (n keys line a : List ℕ) (v : Verb) (when : Now) → Passing (lent (settings_by s us) n keys) line a v when → WholeBlocks (contents n keys s.used)
table_whole s us n keys line a v when p = holds_whole (known p).held s.used (sym (rows_length n keys s.used))

-- Some sender: whether a verdict can be carried out hangs on none.
anyone : model.Rights
anyone = record { r = false; w = false; d = false; t = false; h = false; b = false; c = false }

-- ## An action

module _ (s : State) (us : List Rule) (n keys line a : List ℕ) (x : Action) (when : Now) (p : Passing (lent (settings_by s us) n keys) line a (verb.Act x) when) (t : Contents) (there : t ≡ contents n keys s.used) where
  pub act_asked : Asked s t when.judge (action_means line x)
  act_asked = rw there (known p).asked

  pub act_inside : ActionInside line x
  act_inside = (known p).inside

  module _ (o : Result Plan Refusal) (judged-so : JudgesOn s t line when.judge (meant t.rows (action_means line x)) o) where
    j : JudgesOn s (contents n keys s.used) line when.judge (meant (rows_of n keys s.used) (action_means line x)) o
    j = rw there at judged-so

    decides : done (lent (settings_by s us) n keys) when.judge (meant (rows_of n keys s.used) (action_means line x)) a (verdict_means (judged line s.next when.judge []) (rows_of n keys s.used) o) ≡ outcome (lent (settings_by s us) n keys) (call line a)
    decides = (known p).decided _ (j (known p).who (rules_mean us) []).is

    pub act_stops : (k : Refusal) → o ≡ Err k → outcome_by s (Err k) us n keys a ≡ outcome (lent (settings_by s us) n keys) (call line a)
    act_stops k e = rw e at decides

    module _ (plan : Plan) (e : o ≡ Ok plan) where
      pub act_can : CanCarryOut s n keys line a plan when.stamp []
      act_can = let q = known p in rw q.one_now (record { ready = q.asked.ready; held = q.held; feasible = ((rw e at j) anyone [] []).feasible; room = q.room })

      pub act_done : (y : Done) (n' keys' a' : List ℕ) → CarriedOut s n keys line a plan when.stamp [] y n' keys' a' → outcome_by s (Ok y) us n' keys' a' ≡ outcome (lent (settings_by s us) n keys) (call line a)
      act_done y n' keys' a' g =
          let q = known p in
          (rw q.one_now at g).is us _ q.prefixes (meant_either (rows_of n keys s.used) (action_means line x) (λ w. model.setting_of w ≡ None) (action_unset line x) (λ _. refl))
          ∙ (rw e at decides)

pub ruleset actions = (table_there, act_asked, act_inside, act_stops, act_can, act_done)

-- ## SWEEP

module _ (s : State) (e n keys line a : List ℕ) (when : Now) (p : Passing (lent_with s e n keys) line a verb.Sweep when) where
  pub sweep_table : Searchable n keys s.used
  sweep_table = table_there s (rules_of e) n keys line a verb.Sweep when p

  pub sweep_rules : (fates : List Fate) → length e ≡ entries_length → fates ≡ replicate 1024 Stays → Sweepable s e fates
  sweep_rules fates l f =
      let q = known p in
      let m : length fates ≡ 1024 = ap length f ∙ length-replicate 1024 Stays in
      record { entries_long = l; prefixes = q.prefixes; rules_sound = whole_rules (lent_with s e n keys) p.is_whole; long = omega (arith, q.asked.ready.used_fits, q.asked.ready.capacity_fits) }

  module _ (t : Contents) (there : t ≡ contents n keys s.used) where
    pub sweep_whole : WholeBlocks t
    sweep_whole = rw there (table_whole s (rules_of e) n keys line a verb.Sweep when p)

    pub sweep_asked : Asked s t when.judge Sweep
    sweep_asked = rw there (known p).asked

    module _ (o : Result Plan Refusal) (fates : List Fate) (given : (l : List ℕ) (who : model.Rights) → JudgesBy s t l when.judge who (rules_mean (rules_of e)) (map same_fate fates) Sweep o) where
      judges : (l : List ℕ) (who : model.Rights) → JudgesBy s (contents n keys s.used) l when.judge who (rules_mean (rules_of e)) fates Sweep o
      judges l who = rw (kept_fates fates, there) at (given l who)

      sweep_decides : done (lent_with s e n keys) when.judge Sweep a (verdict_means (judged line s.next when.judge fates) (rows_of n keys s.used) o) ≡ outcome (lent_with s e n keys) (call line a)
      sweep_decides = (known p).decided _ (judges line (known p).who).is

      pub sweep_stops : (k : Refusal) → o ≡ Err k → outcome_by s (Err k) (rules_of e) n keys a ≡ outcome (lent_with s e n keys) (call line a)
      sweep_stops k f = rw f at sweep_decides

      module _ (plan : Plan) (f : o ≡ Ok plan) where
        pub sweep_can : (l : List ℕ) → CanCarryOut s n keys l a plan when.stamp fates
        sweep_can l = let q = known p in rw q.one_now (record { ready = q.asked.ready; held = q.held; feasible = ((rw f at judges) l anyone).feasible; room = q.room })

        pub sweep_done : (l : List ℕ) (y : Done) (n' keys' a' : List ℕ) → CarriedOut s n keys l a plan when.stamp fates y n' keys' a' → outcome_by s (Ok y) (rules_of e) n' keys' a' ≡ outcome (lent_with s e n keys) (call line a)
        sweep_done l y n' keys' a' g =
            let q = known p in
            (rw q.one_now at g).is (rules_of e) Sweep q.prefixes refl ∙ q.decided _ ((rw f at judges) l q.who).is

pub ruleset sweeps = (sweep_table, sweep_whole, sweep_asked, sweep_rules, sweep_stops, sweep_can, sweep_done)

-- ## GET

-- There is room for the answer of whatever asks.
pub asked_room : (s : State) (us : List Rule) (n keys line a : List ℕ) (x : Query) (when : Now) → Passing (lent (settings_by s us) n keys) line a (verb.Ask x) when → least_room ≤ length a
asked_room s us n keys line a x when p = (known p).room

module _ (s : State) (us : List Rule) (n keys line a : List ℕ) (x : Name) (when : Now) (p : Passing (lent (settings_by s us) n keys) line a (verb.Ask (query.Get x)) when) (t : Contents) (there : t ≡ contents n keys s.used) where
  -- the bucket
  abbrev got_of : Lent
  got_of = lent (settings_by s us) n keys

  pub get_inside : Inside line x.key
  get_inside = (known p).inside

  pub get_asked : Asked s t when.judge (Ask (Get (name_means line x)))
  get_asked = rw there (known p).asked

  module _ (o : Result Plan Refusal) (judged-so : JudgesOn s t line when.judge (Ask (Get (name_means line x))) o) where
    got_so : JudgesOn s (contents n keys s.used) line when.judge (Ask (Get (name_means line x))) o
    got_so = rw there at judged-so

    -- The verdict is what the table decides, and done it is the outcome.
    judged_is : verdict_means (judged line s.next when.judge []) (rows_of n keys s.used) o ≡ table_decision (capacity keys) (bucket_of got_of) (both when.judge) (known p).who (Ask (Get (name_means line x)))
    judged_is = (got_so (known p).who (rules_mean us) []).is

    judged_done : done got_of when.judge (Ask (Get (name_means line x))) a (verdict_means (judged line s.next when.judge []) (rows_of n keys s.used) o) ≡ outcome got_of (call line a)
    judged_done = (known p).decided _ judged_is

    pub get_stops : (k : Refusal) → o ≡ Err k → outcome_by s (Err k) us n keys a ≡ outcome got_of (call line a)
    get_stops k q = rw q at judged_done

    module _ (plan : Plan) (q : o ≡ Ok plan) where
      pub get_prints : Printable plan.answer
      get_prints = ((rw q at got_so) anyone [] []).feasible.1

      pub get_answered : (a' : List ℕ) (len : ℕ) (text : Answer) (r : Done) → plan.answer ≡ text → Wrote a 0 (text_of text) longest_answer a' len
          → r ≡ answered_with s len when → outcome_by s (Ok r) us n keys a' ≡ outcome got_of (call line a)
      unfolding added rows_after
      get_answered a' len text r h w g =
          let c = bucket_of got_of in
          let v = Ask (Get (name_means line x)) in
          let same = decide_done (table_checks (capacity keys) c (both when.judge) v) (effect c (both when.judge) (known p).who v) _ (rw q at judged_is) in
          asked_kept p longest_answer len r a' g _ (rw (sym h) at w) (ap (λ (f : Effect). f.rows) same) (ap (λ (f : Effect). f.taken) same)
          ∙ (rw q at judged_done)

pub ruleset gets = (table_there, asked_room, get_inside, get_asked, get_stops, get_prints, get_answered)

-- ## LIST

module _ (s : State) (us : List Rule) (n keys line a : List ℕ) (x : Page) (when : Now) (p : Passing (lent (settings_by s us) n keys) line a (verb.Ask (query.ListVersions x)) when) (t : Contents) (there : t ≡ contents n keys s.used) where
  pub prefix_inside : x.prefix.start + x.prefix.len ≤ length line
  prefix_inside = (known p).inside.prefix.end

  pub key_inside : x.key.start + x.key.len ≤ length line
  key_inside = (known p).inside.key.end

  pub page_room_lem : page_room x.count ≤ length a
  unfolding short_for_page
  page_room_lem = ltb-false (length a) (page_room x.count) (passes_page (line_says (lent (settings_by s us) n keys) line a (verb.Ask (query.ListVersions x)) when p))

  pub page_listable : Listable t.rows
  page_listable = let r = (known p).asked in rw there (listable (rows_of n keys s.used) s.next s.time r.ready.rows_sound (omega (arith, r.since, r.instant)))

  pub page_answered : (prefix key : List ℕ) (a' : List ℕ) (len : ℕ) (r : Done) → prefix ≡ part_of line x.prefix → key ≡ part_of line x.key
      → Wrote a 0 (page_text (page_rows (page prefix key x.version x.count) t.rows)) (page_room x.count) a' len
      → r ≡ answered_with s len when → outcome_by s (Ok r) us n keys a' ≡ outcome (lent (settings_by s us) n keys) (call line a)
  unfolding reply
  page_answered prefix key a' len r f g w h = asked_unnamed p (page_room x.count) len r a' h refl (rw (f, g, there) at w)

pub ruleset pages = (table_there, prefix_inside, key_inside, page_room_lem, page_listable, page_answered)

-- ## REPORT

module _ (s : State) (us : List Rule) (n keys line a : List ℕ) (x : Place) (when : Now) (p : Passing (lent (settings_by s us) n keys) line a (verb.Ask (query.Report x)) when) (t : Contents) (there : t ≡ contents n keys s.used) where
  pub report_inside : x.start + x.len ≤ length line
  report_inside = (known p).inside.end

  pub report_countable : Countable t.rows (length t.rows)
  report_countable = let r = (known p).asked.ready in rw there (countable (rows_of n keys s.used) s.next s.time r.rows_sound (omega (arith, r.used_is, r.used_fits, r.capacity_fits)))

  pub report_answered : (prefix a' : List ℕ) (len : ℕ) (r : Done) → prefix ≡ part_of line x
      → Wrote a 0 (answer_text (reported (totals_of prefix when.judge t.rows))) longest_answer a' len
      → r ≡ answered_with s len when → outcome_by s (Ok r) us n keys a' ≡ outcome (lent (settings_by s us) n keys) (call line a)
  unfolding reply
  report_answered prefix a' len r f w h = asked_unnamed p longest_answer len r a' h refl (rw (f, there) at w)

pub ruleset reports = (table_there, report_inside, asked_room, report_countable, report_answered)

-- ## DEFAULT and RULE

pub set_done : (s t : State) (e e' line a a' : List ℕ) (x : Setting) (when : Now) (len : ℕ) (r : Done) (n keys : List ℕ) → Wrote a 0 (text_of answer.Done) longest_answer a' len
    → settings_with t e' ≡ configured_by (settings_with s e) (setting_means line x) → r ≡ answered_with t len when
    → Passing (lent_with s e n keys) line a (verb.Set x) when → outcome_from s (Ok r) e' n keys a' ≡ outcome (lent_with s e n keys) (call line a)
unfolding config_after
set_done s t e e' line a a' x when len r n keys w c g p =
    let q = known p in
    let b = settings_with s e in
    let f = plan_means (judged line s.next when.judge []) (rows_of n keys s.used) (record { change = change.Keep; answer = answer.Done }) in
    rw g (kept_is b n keys when.judge (Set (setting_means line x)) a f longest_answer len _ a' w
    (ap (λ (u : Settings). record { time = when.stamp; used = u.used; next = u.next; mode = u.mode; count = u.count; unit = u.unit; rules = u.rules }) c ∙ rw q.one_now) q.held refl refl)
    ∙ q.decided (does f) (judge.set_done s n keys line when.judge q.who (rules_mean (rules_of e)) [] (setting_means line x) q.asked).is

-- ## A line that the screen passes, by its verb

module _ (s : State) (us : List Rule) (n keys line a : List ℕ) (sound : whole (lent (settings_by s us) n keys) ≡ true) (o : Result Passed Refusal) (h : Screens s line (length a) o) (w : Passed) (e : o ≡ Ok w) where
  pub line_passes : (u : Verb) → w.verb ≡ u → Passing (lent (settings_by s us) n keys) line a u w.when
  line_passes u f = record { is_whole = sound; passes = rw f at (sym e ∙ h.is (settings_mean (settings_by s us)).config) }

  pub line_fits : least_room ≤ length a
  line_fits = (known (line_passes w.verb refl)).room

module _ (s : State) (b n keys line a : List ℕ) (sound : whole (lent_with s b n keys) ≡ true) (o : Result Passed Refusal) (h : Screens s line (length a) o) (w : Passed) (e : o ≡ Ok w) (x : Setting) (f : w.verb ≡ verb.Set x) where
  pub line_settable : length b ≡ entries_length → Settable line s b x
  unfolding in_range
  line_settable l =
      let q = known (line_passes s (rules_of b) n keys line a sound o h w e (verb.Set x) f) in
      record { entries_long = l; prefixes = q.prefixes; is_in_range = q.asked.in_ranges; inside = q.inside }

  pub line_set : (r : Done) (b' a' : List ℕ) → ((n keys : List ℕ) → Passing (lent_with s b n keys) line a (verb.Set x) w.when → outcome_from s (Ok r) b' n keys a' ≡ outcome (lent_with s b n keys) (call line a)) → outcome_from s (Ok r) b' n keys a' ≡ outcome (lent_with s b n keys) (call line a)
  line_set r b' a' g = g n keys (line_passes s (rules_of b) n keys line a sound o h w e (verb.Set x) f)

pub ruleset lines = (line_stopped, line_passes, line_fits, line_settable, line_set)

-- ## The settings by value

-- A refusal leaves the buffers as they were.
pub kept_by_value : (s : Settings) (n keys line a : List ℕ) (st : State) (e : List ℕ) (r : Result Counted Refusal) (k : Refusal) (e' n' keys' a' : List ℕ) → r ≡ Err k → st ≡ state_of s → rules_of e ≡ s.rules
    → outcome_from st (uncounted r) e' n' keys' a' ≡ outcome (lent_with st e n keys) (call line a) → served_outcome s (Err k) n' keys' a' ≡ outcome (lent s n keys) (call line a)
kept_by_value s n keys line a st e r k e' n' keys' a' w f g h =
    let q : outcome_by (state_of s) (Err k) (rules_of e') n' keys' a' ≡ outcome (lent s n keys) (call line a) = rw (w, f, g) at h in
    let u = q ∙ outcome_refused (lent s n keys) (call line a) (λ z. number_not_0 k (ap (λ (o : Outcome). o.number) q ∙ z)) in
    let b : lent s n' keys' ≡ lent s n keys = ap (λ (o : Outcome). lent s o.bucket.numbers o.bucket.keys) u in
    let x : a' ≡ a = ap (λ (o : Outcome). o.answer) u in
    rw (b, x) (ap (λ (o : Outcome). refused o.number (lent s n keys) a) q ∙ sym (outcome_refused (lent s n keys) (call line a) (λ z. number_not_0 k (ap (λ (o : Outcome). o.number) q ∙ z))))

pub done_by_value : (s : Settings) (n keys line a : List ℕ) (st : State) (e : List ℕ) (r : Result Counted Refusal) (d : Counted) (e' n' keys' a' : List ℕ) (after : Settings) → r ≡ Ok d → st ≡ state_of s → rules_of e ≡ s.rules
    → outcome_from st (uncounted r) e' n' keys' a' ≡ outcome (lent_with st e n keys) (call line a) → after ≡ settings_with d.done.state e'
    → served_outcome s (Ok (record { len = d.done.len; settings = after })) n' keys' a' ≡ outcome (lent s n keys) (call line a)
done_by_value s n keys line a st e r d e' n' keys' a' after w f g h q = rw q (rw (w, f, g) at h)

pub ruleset by_value = (kept_by_value, done_by_value)

-- For callers: the answer stands within its buffer.
pub answer_fits : (s : State) (b : Lent) (g : Call) (us : List Rule) (n' keys' a' : List ℕ) (r : Done) → outcome_by s (Ok r) us n' keys' a' ≡ outcome b g → r.len ≤ length a'
answer_fits s b g us n' keys' a' r q = subst⁻¹ (λ (o : Outcome). o.len ≤ length o.answer) q (outcome_fits b g)
