pub mod QueuesRight
