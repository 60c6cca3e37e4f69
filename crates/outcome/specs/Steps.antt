-- The outcome by what is decided of a request, for the functions between reading a line and answering it.
use Rattle.std.specs.Prelude.{ℕ, ◌+◌, List}
use Rattle.model.specs.Settings as model
use Rattle.model.specs.Requests.{Verb}
use Rattle.model.specs.Effects.{config_after}
use Rattle.settings.specs.Meaning.{settings_mean}
use Rattle.table.specs.Layout.{capacity}
use Rattle.bucket.specs.Whole.{Lent, laid_out}
use Rattle.outcome.specs.Decision.{Effect, Decision, refuses, does}
use Rattle.outcome.specs.Outcome.{Outcome, refused, answered_by}

-- the settings after an accepted line: now is the bucket's time
abbrev pub settings_after : model.Settings → ℕ → ℕ → Verb → model.Settings
settings_after s now taken v = record { time = now; next = s.next + taken; config = config_after s.config v }

-- an effect, carried out
abbrev pub carried : Lent → ℕ → Verb → List ℕ → Effect → Outcome
carried b now v answer e =
    answered_by e.text (laid_out (capacity b.keys) (record { settings = settings_after (settings_mean b.settings) now e.taken v; rows = e.rows })) answer

-- what is decided, done
abbrev pub done : Lent → ℕ → Verb → List ℕ → Decision → Outcome
done b now v answer (refuses n) = refused n b answer
done b now v answer (does e) = carried b now v answer e
