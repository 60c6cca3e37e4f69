-- A whole bucket is ready to be judged.
use Prim.Native.Nat.{ℕ, max}
use mathlib.Core.Path.{◌≡◌, sym, ap, ◌∙◌}
use mathlib.Core.Bool.{true, ◌&&◌}
use mathlib.Core.List.{List}
use native.Mathlib.Omega.{arith}
use lib.Dec.{leb}
use lib.ListN.{length}
use borrow.Author.Tests.{leb-true}
use Rattle.buffers.proofs.Tests.{and_l, and_r}
use Rattle.calendar.specs.declared.Now.{Now}
use Rattle.calendar.specs.Calendar.{latest}
use Rattle.model.specs.Settings.{sound_rules}
use Rattle.model.specs.Requests.{in_range}
use Rattle.model.proofs.Sound.{whole as sound_whole, config_default, config_rules}
use Rattle.settings.specs.Meaning.{settings_mean}
use Rattle.settings.specs.State.{state_of}
use Rattle.table.specs.Contents.{contents}
use Rattle.table.specs.Layout.{capacity}
use Rattle.table.proofs.Held.{rows_length}
use Rattle.bucket.specs.Whole.{Lent, bucket_of, whole}
use Rattle.bucket.proofs.Whole.{whole_parts}
use Rattle.request.specs.declared.Verb.{Verb}
use Rattle.request.specs.Meaning.{verb_means}
use Rattle.request.proofs.Ranges.{read_in_range}
use Rattle.screen.proofs.Lines.{Passes, line_passed}
use Rattle.judge.specs.State.{Ready}
use Rattle.judge.specs.Premises.{Asked}
use Rattle.engine.specs.Served.{Passing}

ready : (b : Lent) → whole b ≡ true → Ready (state_of b.settings) (contents b.numbers b.keys b.settings.used)
ready b e =
    let p = whole_parts b e in
    let w = sound_whole (capacity b.keys) (bucket_of b) p.is_sound in
    record {
      in_order = w.in_order;
      rows_sound = w.rows_sound;
      from_one = w.from_one;
      next_fits = w.next_fits;
      default_sound = config_default (settings_mean b.settings).config w.config_sound;
      used_is = rows_length b.numbers b.keys b.settings.used;
      used_fits = p.room;
      capacity_fits = p.most;
    }

-- The rules of a whole bucket are sound.
pub whole_rules : (b : Lent) → whole b ≡ true → sound_rules (settings_mean b.settings).config.rules ≡ true
whole_rules b e = config_rules (settings_mean b.settings).config (sound_whole (capacity b.keys) (bucket_of b) (whole_parts b e).is_sound).config_sound

-- A line that passes the screen is judged on such a bucket.
module _ (b : Lent) (line a : List ℕ) (v : Verb) (when : Now) (p : Passing b line a v when) where
  pub line_says : Passes (settings_mean b.settings).config b.settings.time line (length a) v when
  line_says = line_passed (settings_mean b.settings).config b.settings.time line (length a) v when p.passes

  -- Both readings of its now are the larger of the bucket's time and the line's reading.
  pub line_judge : when.judge ≡ max b.settings.time line_says.clock
  line_judge = ap (λ (t : Now). t.judge) line_says.now_is

  pub line_stamp : when.stamp ≡ when.judge
  line_stamp = ap (λ (t : Now). t.stamp) line_says.now_is ∙ sym line_judge

  line_ranges : (leb line_says.clock latest && in_range (verb_means line v)) ≡ true
  line_ranges = read_in_range line _ line_says.says

  pub line_asked : Asked (state_of b.settings) (contents b.numbers b.keys b.settings.used) when.judge (verb_means line v)
  line_asked =
      let q = line_says in
      let t = leb-true b.settings.time latest (sound_whole (capacity b.keys) (bucket_of b) (whole_parts b p.is_whole).is_sound).time_fits in
      let c = leb-true q.clock latest (and_l _ _ line_ranges) in
      record { ready = ready b p.is_whole; instant = omega (arith, line_judge); since = omega (arith, line_judge); in_ranges = and_r (leb q.clock latest) _ line_ranges }
