use Rattle.stream_sessions.proofs.SpeakingLaws.{begun_session}
use Rattle.stream_sessions.proofs.session.serve_session.Goals as goal

pub returns-clause-served : goal.returns-clause-served
returns-clause-served g c =
    (begun_session c.serve-outcome.result c.args.terms c.args.client.now c.serve-outcome.new.client _ _ _ _ _ _ _
    c.new-session.ensures.wire c.new-session.ensures.manner c.new-session.ensures.none_held c.serve-outcome.ensures).served

pub returns-clause-broken : goal.returns-clause-broken
returns-clause-broken g c =
    (begun_session c.serve-outcome.result c.args.terms c.args.client.now c.serve-outcome.new.client _ _ _ _ _ _ _
    c.new-session.ensures.wire c.new-session.ensures.manner c.new-session.ensures.none_held c.serve-outcome.ensures).broken

pub returns-clause-conversed : goal.returns-clause-conversed
returns-clause-conversed g c =
    (begun_session c.serve-outcome.result c.args.terms c.args.client.now c.serve-outcome.new.client _ _ _ _ _ _ _
    c.new-session.ensures.wire c.new-session.ensures.manner c.new-session.ensures.none_held c.serve-outcome.ensures).conversed

pub returns-clause-same : goal.returns-clause-same
returns-clause-same g c =
    (begun_session c.serve-outcome.result c.args.terms c.args.client.now c.serve-outcome.new.client _ _ _ _ _ _ _
    c.new-session.ensures.wire c.new-session.ensures.manner c.new-session.ensures.none_held c.serve-outcome.ensures).same
