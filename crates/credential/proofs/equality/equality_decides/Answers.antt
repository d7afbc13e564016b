use Rattle.credential.proofs.Equalities.{number_eq, role_eq, membership_eq, credential_eq}
use Rattle.credential.proofs.equality.equality_decides.Goals as goal

pub returns-clause-entities : goal.returns-clause-entities
returns-clause-entities c = number_eq

pub returns-clause-role_names : goal.returns-clause-role_names
returns-clause-role_names c = number_eq

pub returns-clause-roles : goal.returns-clause-roles
returns-clause-roles c = role_eq

pub returns-clause-memberships : goal.returns-clause-memberships
returns-clause-memberships c = membership_eq

pub returns-clause-credentials : goal.returns-clause-credentials
returns-clause-credentials c = credential_eq
