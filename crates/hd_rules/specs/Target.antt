-- Which command a cancellation takes back (docs/protocol.md, "Cancellations").
use Rattle.std.specs.Prelude.{◌≡◌, Bool, true, false, ◌&&◌, ◌==◌, List, [], ◌∷◌, ◌++◌}
use Rattle.hd_rules.specs.Words.{Action, Cancel, Survivor}
use Rattle.hd_rules.specs.declared.commands.Action.TheVariants as action
use Rattle.hd_rules.specs.declared.commands.Cancel.TheVariants as cancel
use Rattle.hd_rules.specs.Numbers.{PatronNo, TitleNo, TerminalNo}

-- the same patron and title
abbrev pub same_pair : PatronNo → TitleNo → PatronNo → TitleNo → Bool
same_pair p t q u = (p == q) && (t == u)

-- The action is what such a cancellation takes back. The patron
-- of a loan or a renewal isn't compared, nor a return's branch.
abbrev pub is_of_kind : Cancel → Action → Bool
is_of_kind (cancel.Checkout c) (action.Checkout p x may_renew) = c == x
is_of_kind (cancel.Checkout c) (action.OffLine p x due) = c == x
is_of_kind (cancel.Checkin c) (action.Checkin x b) = c == x
is_of_kind (cancel.Renewal c) (action.Renewal p x) = c == x
is_of_kind (cancel.Add p t) (action.Add q u kind pickup expiry) = same_pair p t q u
is_of_kind (cancel.Delete p t) (action.Delete q u) = same_pair p t q u
is_of_kind (cancel.Change p t) (action.Change q u kind pickup expiry) = same_pair p t q u
is_of_kind _ _ = false

-- survivors, split at one of them
pub record Split : Type 0 where
  pub older : List Survivor
  pub survivor : Survivor
  pub newer : List Survivor

module _ (terminal : TerminalNo) (what : Cancel) where
  -- a survivor that such a cancellation by this terminal may take back
  abbrev pub is_target : Survivor → Bool
  is_target s = (s.terminal == terminal) && is_of_kind what s.command.action

  -- none of them may be taken back so
  abbrev pub NoTarget : List Survivor → Type 0
  NoTarget [] = Unit {0}
  NoTarget (s ∷ ss) = (is_target s ≡ false) × NoTarget ss

  -- the target: the newest survivor that may be taken back so, at which they are split
  pub record IsTarget (survivors : List Survivor) (at : Split) : Type 0 where
    pub split : survivors ≡ at.older ++ at.survivor ∷ at.newer
    pub fits : is_target at.survivor ≡ true
    pub newest : NoTarget at.newer
