pub mod Text
pub mod Value
pub mod ValueLaws
pub mod Cond
pub mod Members
pub mod Kind
pub mod Query
pub mod AllQueries
-- what constants of a star question say, which may stand where, and their plan
pub mod Clause
pub mod ClauseSaid
pub mod Clauses
pub mod Star
-- the plans of queries
pub mod Queries
pub mod Constant
pub mod Plan
pub mod Question
pub mod QuestionEq
pub mod Laws
-- what the plan of a star question means
pub mod StarMeaning
