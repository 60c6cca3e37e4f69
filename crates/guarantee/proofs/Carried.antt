-- M-106: what calls leave can be carried over again, and what was whole before is whole.
use Prim.Native.Nat.{ℕ}
use mathlib.Core.Path.{◌≡◌, refl, sym, ◌∙◌, subst⁻¹}
use mathlib.Core.Bool.{Bool, true, ◌&&◌}
use mathlib.Core.List.{map}
use native.Mathlib.Omega.{arith}
use lib.Dec.{leb}
use borrow.Author.Tests.{leb-true, le-leb}
use Rattle.buffers.specs.Lists.{same}
use Rattle.buffers.proofs.Tests.{and_i, and_l, and_r}
use Rattle.calendar.specs.Calendar.{latest}
use Rattle.model.specs.Settings.{Settings, Bucket, spent_number, sound_settings, fits, sound}
use Rattle.model.specs.LockClause.{distinct}
use Rattle.model.proofs.Facts.{always_distinct}
use Rattle.model.proofs.Runs.{left_keeps}
use Rattle.settings.specs.Meaning.{prefixes_are}
use Rattle.table.specs.Layout.{numbers_of, keys_of, capacity}
use Rattle.bucket.specs.Whole.{used_rows, bucket_of, whole}
use Rattle.bucket.proofs.Whole.{whole_parts}
use Rattle.outcome.specs.Calls.{heard}
use Rattle.outcome.proofs.Demands.{whole_not_1}
use Rattle.knitpasture.specs.Bytes.{lent_of}
use Rattle.guarantee.specs.Calls.{step}
use Rattle.guarantee.specs.Carried.{Carriable, CarriedAgain, CarriedAgainBytes, settings_before, sound_before, WholeStill, ServedStill}
use Rattle.guarantee.proofs.Runs.{Whole, whole_after, held_left}
use Rattle.guarantee.proofs.Bytes.{same_number, spelled_left}

-- ## Carried over again

pub carried_again : CarriedAgain
carried_again b p gs =
    let c = capacity b.keys in
    let w : Whole c b = record { is_whole = p.is_whole; size = refl } in
    record {
      is_whole = (left_keeps step (Whole c) (whole_after c) b gs w).is_whole;
      numbers_differ = subst⁻¹ (λ (x : Bucket). distinct x.rows ≡ true) (held_left c b gs w)
          (always_distinct c (bucket_of b) (whole_parts b p.is_whole).is_sound p.numbers_differ (map heard gs));
    }

pub carried_again_bytes : CarriedAgainBytes
carried_again_bytes c b z p gs = subst⁻¹ Carriable (spelled_left c b gs z) (carried_again _ p gs)

-- ## What was whole before

-- The last of two tests may be exchanged for one that follows from it.
and_as : (a : Bool) {x y : Bool} → (x ≡ true → y ≡ true) → (a && x) ≡ true → (a && y) ≡ true
and_as a {x} {y} f e = and_i a y (and_l _ _ e) (f (and_r a _ e))

settings_still : (s : Settings) → settings_before s ≡ true → sound_settings s ≡ true
settings_still s =
    and_as (leb s.time latest) (and_as (leb 1 s.next) (λ e.
    and_i _ _ (le-leb s.next spent_number (omega (arith, leb-true s.next 4294967296 (and_l _ _ e)))) (and_r (leb s.next 4294967296) _ e)))

sound_still : (c : ℕ) (b : Bucket) → sound_before c b ≡ true → sound c b ≡ true
unfolding sound
sound_still c b =
    and_as (fits c b.settings.config b.rows) (λ e.
    and_i (sound_settings b.settings) _ (settings_still b.settings (and_l _ _ e)) (and_r (settings_before b.settings) _ e))

pub whole_still : WholeStill
unfolding whole
whole_still b =
    let c = capacity b.keys in
    and_as (leb 1 c)
    (and_as (leb c 1024)
    (and_as (leb b.settings.used c)
    (and_as (same b.numbers (numbers_of c (used_rows b)))
    (and_as (same b.keys (keys_of c (used_rows b)))
    (and_as (prefixes_are b.settings.rules)
    (sound_still c (bucket_of b)))))))

pub served_still : ServedStill
served_still c b z w g e = whole_not_1 (lent_of b) g (whole_still (lent_of b) w) (sym (same_number c b g z) ∙ e)
