pub mod CallAnswers
pub mod RoomFilled
pub mod WholeFiles
pub mod Reported
pub mod Retried
pub mod ClosedOutputs
pub mod AnswersCounted
