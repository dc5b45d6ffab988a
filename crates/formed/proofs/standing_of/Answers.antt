use Rattle.formed.proofs.FormedLaws.{unsettled, unsound, unseated, stands, falls}
use Rattle.std.proofs.Common.{not, ap, ◌∙◌, is_some}
use Rattle.formed.proofs.standing_of.Goals as goal

pub returns-then-not-are_settings : goal.returns-then-not-are_settings
returns-then-not-are_settings c = unsettled _ c.are_settings.ensures (ap not c.if-not-are_settings.true)

pub returns-then-not-are_sound : goal.returns-then-not-are_sound
returns-then-not-are_sound c = unsound _ c.are_sound.ensures.0 (ap not c.if-not-are_sound.true)

pub returns-in_err-oldest : goal.returns-in_err-oldest
returns-in_err-oldest c = c.from_residual.ensures ∙ unseated _ (c.are_sound.ensures.1 (c.if-not-are_sound.false)) c.seats_of.ensures.0 c.in_err-oldest.was

pub returns-then-are_distinct-are_owned : goal.returns-then-are_distinct-are_owned
returns-then-are_distinct-are_owned c = let t = c.args.t.now in
    let e = c.are_sound.ensures.1 (c.if-not-are_sound.false) in
    stands _ e c.seats_of.ensures.0 c.in_ok-oldest.was c.are_sound.ensures.0 (ap not c.if-not-are_sound.false) c.are_settings.ensures (ap not c.if-not-are_settings.false) c.are_distinct.ensures
    (c.are_owned.ensures t.sessions t.streams e (c.seats_of.ensures.1 (ap is_some c.in_ok-oldest.was))) c.if-are_distinct-are_owned.true

pub returns : goal.returns
returns c = let t = c.args.t.now in
    let e = c.are_sound.ensures.1 (c.if-not-are_sound.false) in
    falls _ e c.seats_of.ensures.0 c.in_ok-oldest.was c.are_sound.ensures.0 (ap not c.if-not-are_sound.false) c.are_settings.ensures (ap not c.if-not-are_settings.false) c.are_distinct.ensures
    (c.are_owned.ensures t.sessions t.streams e (c.seats_of.ensures.1 (ap is_some c.in_ok-oldest.was))) c.if-are_distinct-are_owned.false
