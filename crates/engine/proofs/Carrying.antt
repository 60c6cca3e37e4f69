-- A plan carried out: what is returned and left is its decision, done.
use Rattle.model.specs.declared.Fate.{Fate}
use Rattle.model.specs.Fates.{same_fate}
use Prim.Native.Nat.{ℕ, ◌+◌}
use mathlib.Core.Path.{◌≡◌, sym, ◌∙◌, ap}
use mathlib.Core.Bool.{true}
use mathlib.Core.List.{List, ◌++◌, map}
use Rattle.std.specs.Prelude.{None}
use native.Mathlib.Omega.{arith}
use Rattle.std.proofs.lemmas.List.{map-id}
use lib.ListN.{length, drop}
use Rattle.buffers.specs.Writes.{Wrote}
use Rattle.model.specs.Requests.{Verb, setting_of}
use Rattle.model.specs.Effects.{config_after}
use Rattle.settings.specs.declared.Rule.{Rule}
use Rattle.settings.specs.declared.Settings.{Settings}
use Rattle.settings.specs.declared.State.{State}
use Rattle.settings.specs.Meaning.{settings_mean, settings_from, prefixes_are}
use Rattle.settings.specs.State.{settings_by}
use Rattle.settings.proofs.Back.{means_back}
use Rattle.table.specs.Layout.{rows_of, capacity, Holds}
use Rattle.table.proofs.Held.{rows_length}
use Rattle.answers.specs.Text.{longest_answer}
use Rattle.answers.specs.Meaning.{text_of, Printable}
use Rattle.judge.specs.declared.Plan.{Plan}
use Rattle.judge.specs.Meaning.{plan_means}
use Rattle.apply.specs.declared.Progress.{Progress}
use Rattle.apply.specs.Applied.{judged, Applicable, Applied}
use Rattle.bucket.specs.Whole.{lent}
use Rattle.outcome.specs.Decision.{Effect}
use Rattle.outcome.specs.Outcome.{Outcome, written}
use Rattle.outcome.specs.Steps.{settings_after, carried}
use Rattle.engine.specs.Served.{with_progress, CanCarryOut, CarriedOut}

-- ## Outcomes by their parts

-- an accepted call that leaves these settings
abbrev left : ℕ → Settings → List ℕ → List ℕ → List ℕ → Outcome
left len s n keys a = record { number = 0; len = len; bucket = lent s n keys; answer = a }

same_outcome : (l m : ℕ) (s t : Settings) (n n' keys keys' a a' : List ℕ) → l ≡ m → s ≡ t → n ≡ n' → keys ≡ keys' → a ≡ a' → left l s n keys a ≡ left m t n' keys' a'
same_outcome l m s t n n' keys keys' a a' e1 e2 e3 e4 e5 = rw (e1, e2, e3, e4, e5)

-- An effect, carried out.
pub carried_is : (s : Settings) (n keys : List ℕ) (now : ℕ) (v : Verb) (a : List ℕ) (e : Effect) (most len : ℕ) (after : Settings) (n' keys' a' : List ℕ) → Wrote a 0 e.text most a' len
    → after ≡ settings_from (settings_after (settings_mean s) now e.taken v) (length e.rows) → Holds (capacity keys) e.rows n' keys'
    → left len after n' keys' a' ≡ carried (lent s n keys) now v a e
carried_is s n keys now v a e most len after n' keys' a' w q h =
    let z : 0 + length e.text ≡ length e.text = omega arith in
    same_outcome len (length e.text) after _ n' _ keys' _ a' (written e.text a)
    (omega (arith, w.next))
    q
    h.numbers_are
    h.keys_are
    (w.holds ∙ ap (λ (k : ℕ). e.text ++ drop k a) z)

-- An effect that keeps the rows and takes no number leaves the buffers as they are.
pub kept_is : (s : Settings) (n keys : List ℕ) (now : ℕ) (v : Verb) (a : List ℕ) (e : Effect) (most len : ℕ) (after : Settings) (a' : List ℕ) → Wrote a 0 e.text most a' len
    → after ≡ settings_from (record { time = now; next = s.next; config = config_after (settings_mean s).config v }) s.used → Holds (capacity keys) (rows_of n keys s.used) n keys
    → e.rows ≡ rows_of n keys s.used → e.taken ≡ 0 → left len after n keys a' ≡ carried (lent s n keys) now v a e
kept_is s n keys now v a e most len after a' w q h er et =
    let z : s.next + 0 ≡ s.next = omega arith in
    carried_is s n keys now v a e most len after n keys a' w (rw (er, et, z, rows_length n keys s.used) q) (rw er h)

-- ## A plan

-- The settings, where the verb sets nothing: now, the used rows and the next number.
pub settings_after_lem : (s : State) (us : List Rule) (v : Verb) (now used next : ℕ) → setting_of v ≡ None → prefixes_are us ≡ true
    → settings_by (with_progress s now used next) us ≡ settings_from (record { time = now; next = next; config = config_after (settings_mean (settings_by s us)).config v }) used
unfolding config_after
settings_after_lem s us v now used next e h = rw e (sym (means_back (settings_by (with_progress s now used next) us) h))

-- A fate is kept as it is.
pub kept_fates : (fates : List Fate) → map same_fate fates ≡ fates
kept_fates fates = map-id fates

module _ (s : State) (n keys line a : List ℕ) (plan : Plan) (now : ℕ) (fates : List Fate) (p : CanCarryOut s n keys line a plan now fates) where
  pub plan_can : Applicable (judged line s.next now (map same_fate fates)) n keys s.used plan.change
  plan_can =
      let r = p.ready in
      rw (kept_fates fates) (record { held = p.held; can = p.feasible.0; small = r.capacity_fits; used_small = omega (arith, r.used_fits, r.capacity_fits) })

  pub plan_prints : Printable plan.answer
  plan_prints = p.feasible.1

  pub plan_done : (n' keys' a' : List ℕ) (g : Progress) (len : ℕ)
      → Applied (judged line s.next now (map same_fate fates)) (capacity keys) (rows_of n keys s.used) plan.change n' keys' g → Wrote a 0 (text_of plan.answer) longest_answer a' len
      → CarriedOut s n keys line a plan now fates (record { len = len; state = with_progress s now g.used g.next }) n' keys' a'
  plan_done n' keys' a' g len e w =
      let d : Applied (judged line s.next now fates) (capacity keys) (rows_of n keys s.used) plan.change n' keys' g = rw (kept_fates fates) at e in
      record {
        is = λ us v h c. carried_is (settings_by s us) n keys now v a (plan_means (judged line s.next now fates) (rows_of n keys s.used) plan) _ len _ n' keys' a' w
            (rw (d.used_is, d.next_is) (settings_after_lem s us v now _ _ c h))
            d.held;
      }

pub ruleset plans = (plan_can, plan_prints, plan_done)
