-- 01, DELETE and RETAIN: when a row is locked, and which retention may follow another.
use Rattle.std.specs.Prelude.{ℕ, Bool, true, false, not, ◌&&◌, ◌||◌, eqb, leb, ltb}
use Rattle.std.specs.Prelude.{Option, Some, None}
use Rattle.buffers.specs.Choices.{pick, is_some}
use Rattle.model.specs.Rows.{Row, governance, compliance}
use Rattle.model.specs.Requests.{Retention, is_the}

-- *Locked* (01): hold is on; or now is before its date and the mode is COMPLIANCE, or GOVERNANCE without bypass.
unfoldable pub locked : ℕ → Bool → Row → Bool
locked now bypass x =
    eqb x.hold 1
    || (ltb now x.until && (eqb x.mode compliance || (eqb x.mode governance && not bypass)))

-- A date that is given, and no earlier than d.
abbrev pub no_earlier : ℕ → Option ℕ → Bool
no_earlier d None = false
no_earlier d (Some t) = leb d t

-- RETAIN's rule: while the row's date is after now, COMPLIANCE admits only COMPLIANCE with a date no earlier, GOVERNANCE without bypass either mode with a date no earlier, and with bypass anything. Otherwise anything is admitted.
unfoldable pub admits : ℕ → Bool → Row → Retention → Bool
admits now bypass x r =
    pick (ltb now x.until)
    (pick (eqb x.mode compliance)
    (is_the compliance r.mode && no_earlier x.until r.date)
    (bypass || (is_some r.mode && no_earlier x.until r.date)))
    true
