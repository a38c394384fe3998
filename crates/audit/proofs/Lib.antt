pub mod AuditLaws
