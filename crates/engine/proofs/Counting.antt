-- The count of a call: that of SWEEP by its verdict, none for any other line.
use Rattle.model.specs.declared.Fate.{Fate}
use Rattle.model.specs.Fates.{same_fate}
use Rattle.std.specs.Prelude.{Result, Ok, Err}
use Rattle.model.specs.declared.Refusal.{Refusal}
use Rattle.screen.specs.declared.Passed.{Passed}
use Rattle.model.proofs.Facts.{number_not_0}
use Prim.Native.Nat.{ℕ}
use mathlib.Core.Path.{◌≡◌, refl, sym, ◌∙◌, ap}
use mathlib.Core.Bool.{Bool, true, false}
use mathlib.Core.List.{List, map}
use native.Mathlib.Omega.{arith}
use lib.Dec.{eqb}
use lib.ListN.{length}
use borrow.Author.Tests.{ne_eqb}
use Rattle.buffers.specs.Choices.{pick}
use Rattle.calendar.specs.declared.Now.{Now}
use Rattle.model.specs.Comparisons.{comparisons, comparisons_by}
use Rattle.settings.specs.declared.Rule.{Rule}
use Rattle.settings.specs.declared.State.{State}
use Rattle.settings.specs.Bytes.{rules_of}
use Rattle.settings.specs.State.{settings_by}
use Rattle.settings.specs.Meaning.{rules_mean, settings_mean}
use Rattle.bucket.specs.Whole.{Lent, lent, lent_with, bucket_of, whole}
use Rattle.request.specs.declared.Action.{Action}
use Rattle.request.specs.declared.Setting.{Setting}
use Rattle.request.specs.declared.Query.{Query}
use Rattle.request.specs.declared.Verb.{Verb}
use Rattle.request.specs.declared.Verb.TheVariants as verb
use Rattle.request.specs.Meaning.{verb_means}
use Rattle.request.proofs.Actions.{action_uncounted}
use Rattle.screen.specs.Screen.{Screens, screened_line}
use Rattle.screen.proofs.Lines.{line_passed}
use Rattle.judge.specs.declared.Plan.{Plan}
use Rattle.judge.specs.Premises.{JudgesBy}
use Rattle.table.specs.Contents.{Contents, contents}
use Rattle.model.specs.Requests.{Rights, Sweep}
use Rattle.outcome.specs.Calls.{call}
use Rattle.outcome.specs.Outcome.{Outcome, outcome}
use Rattle.outcome.proofs.Deciding.{outcome_1}
use Rattle.outcome.specs.Comparisons.{comparisons_of}
use Rattle.engine.specs.declared.Done.{Done}
use Rattle.engine.specs.Served.{Passing, CarriedOut}
use Rattle.engine.proofs.Serving.{stops, sweep_stops, sweep_done}

-- ## The count of a call

-- Either way there is none.
none_either : (b : Bool) → ◌≡◌ {A = ℕ} (pick b 0 0) 0
none_either true = refl
none_either false = refl

module _ (b : Lent) (line a : List ℕ) where
  -- A call that returns another number than 0 is refused.
  refused_count : ((outcome b (call line a)).number ≡ 0 → ⊥) → 0 ≡ comparisons_of b (call line a)
  unfolding comparisons_of
  refused_count e = rw (ne_eqb _ 0 e)

  module _ (v : Verb) (when : Now) (p : Ok (record { verb = v; when = when }) ≡ screened_line (settings_mean b.settings).config b.settings.time line (length a)) where
    passing_count : comparisons_of b (call line a) ≡ pick (eqb (outcome b (call line a)).number 0) (comparisons_by (bucket_of b) (verb_means line v)) 0
    unfolding comparisons_of
    passing_count = rw (line_passed (settings_mean b.settings).config b.settings.time line (length a) v when p).says

    other_count : comparisons_by (bucket_of b) (verb_means line v) ≡ 0 → 0 ≡ comparisons_of b (call line a)
    other_count e = sym (passing_count ∙ rw e (none_either (eqb (outcome b (call line a)).number 0)))

-- ## The ways through the code

module _ (s : State) (us : List Rule) (n keys line a : List ℕ) where
  -- the bucket
  abbrev b : Lent
  b = lent (settings_by s us) n keys

  pub unsound_counts : (w : Bool) → w ≡ whole b → w ≡ false → 0 ≡ comparisons_of b (call line a)
  unsound_counts w f t = refused_count b line a (λ z. let y : 1 ≡ 0 = ap (λ (o : Outcome). o.number) (outcome_1 b (call line a) (sym f ∙ t)) ∙ z in omega arith)

  module _ (o : Result Passed Refusal) (g : Screens s line (length a) o) where
    pub stopped_counts : (k : Refusal) → o ≡ Err k → whole b ≡ true → 0 ≡ comparisons_of b (call line a)
    stopped_counts k t h =
        let z : Err k ≡ screened_line (settings_mean b.settings).config s.time line (length a) = sym t ∙ g.is (settings_mean b.settings).config in
        refused_count b line a (λ y. number_not_0 k (ap (λ (q : Outcome). q.number) (stops b line a h k z) ∙ y))

    module _ (w : Passed) (t : o ≡ Ok w) where
      other_counts : (u : Verb) → w.verb ≡ u → comparisons_by (bucket_of b) (verb_means line u) ≡ 0 → 0 ≡ comparisons_of b (call line a)
      other_counts u f z = other_count b line a u w.when (rw f at (sym t ∙ g.is (settings_mean b.settings).config)) z

      pub act_counts : (y : Action) → w.verb ≡ verb.Act y → 0 ≡ comparisons_of b (call line a)
      act_counts y f = other_counts (verb.Act y) f (action_uncounted line y (bucket_of b))

      pub set_counts : (y : Setting) → w.verb ≡ verb.Set y → 0 ≡ comparisons_of b (call line a)
      unfolding comparisons_by
      set_counts y f = other_counts (verb.Set y) f refl

      pub ask_counts : (y : Query) → w.verb ≡ verb.Ask y → 0 ≡ comparisons_of b (call line a)
      unfolding comparisons_by
      ask_counts y f = other_counts (verb.Ask y) f refl

pub ruleset line_counts = (stopped_counts, act_counts, set_counts, ask_counts)

-- ## SWEEP

module _ (s : State) (e n keys line a : List ℕ) (when : Now) (p : Passing (lent_with s e n keys) line a verb.Sweep when) (t : Contents) (there : t ≡ contents n keys s.used) (o : Result Plan Refusal) (fates : List Fate)
    (j : (l : List ℕ) (who : Rights) → JudgesBy s t l when.judge who (rules_mean (rules_of e)) (map same_fate fates) Sweep o) where
  -- A refused sweep counts none.
  pub sweep_uncounted : (k : Refusal) → o ≡ Err k → 0 ≡ comparisons_of (lent_with s e n keys) (call line a)
  sweep_uncounted k f = refused_count (lent_with s e n keys) line a (λ y. number_not_0 k (ap (λ (z : Outcome). z.number) (sweep_stops s e n keys line a when p t there o fates j k f) ∙ y))

  pub sweep_counted : (plan : Plan) → o ≡ Ok plan → (l : List ℕ) (y : Done) (n' keys' a' : List ℕ) → CarriedOut s n keys l a plan when.stamp fates y n' keys' a'
      → (c : ℕ) → c ≡ comparisons (rules_mean (rules_of e)) t.rows → c ≡ comparisons_of (lent_with s e n keys) (call line a)
  unfolding comparisons_by
  sweep_counted plan f l y n' keys' a' g c h =
      h ∙ ap (λ (x : Contents). comparisons (rules_mean (rules_of e)) x.rows) there
      ∙ sym (passing_count (lent_with s e n keys) line a verb.Sweep when p.passes ∙ rw (sym (ap (λ (z : Outcome). z.number) (sweep_done s e n keys line a when p t there o fates j plan f l y n' keys' a' g))))
